-- The data bytes and the counts of the three channels, both ways.
pub mod Counts
pub mod RoundTrip
