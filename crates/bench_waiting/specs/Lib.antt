-- The answers of wait and poll.
pub mod Times
