-- What the bench answers, line by line.
pub mod Answers
