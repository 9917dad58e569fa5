-- What lent places hold once a map point or two rooms' verdicts are handed over in them.
pub mod Points
pub mod Verdicts
