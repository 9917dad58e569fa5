-- A whole reading by the plain roads: when they are taken, what they give, and that it is the reading's answer.
pub mod Plain
pub mod Taken
