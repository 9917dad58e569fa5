-- Pieces of an answer.
pub mod Phrases
