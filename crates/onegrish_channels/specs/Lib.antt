-- What lent places hold once a reading is handed over in them.
pub mod Channels
