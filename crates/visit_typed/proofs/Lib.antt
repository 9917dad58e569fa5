-- What the loops cite.
pub mod Loops
