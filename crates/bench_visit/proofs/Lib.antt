-- What the proofs cite of steps in a line and in a list.
pub mod Words
pub mod Laying
