-- The chip's words in 16 bits, and a reading with those that a caller kept.
pub mod Kept
pub mod RoundTrip
