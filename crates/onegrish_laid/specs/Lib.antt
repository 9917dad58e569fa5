-- The chip's words in 16 bits, written; and that they are read again as they were.
pub mod Written
pub mod RoundTrip
