-- Visit records: what a visit is, how it stands in bytes and in a lent list, how it is read and written, and what is proved of both.
pub mod Tags
pub mod Steps
pub mod Words
pub mod Kept
pub mod Tree
pub mod Reader
pub mod Writer
pub mod Lent
pub mod Answers
pub mod Records
pub mod Refusals
