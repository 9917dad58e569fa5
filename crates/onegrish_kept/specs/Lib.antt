-- The chip's words out of numbers of 16 bits.
pub mod Words
