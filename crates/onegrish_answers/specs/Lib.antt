-- What lent places hold once the library's answers are handed over in them.
pub mod Handed
pub mod Version
