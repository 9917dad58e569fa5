-- Laws of words and of pairs.
pub mod Front
pub mod Whole
pub mod Characters
pub mod Laying
pub mod Decimals
