-- A list laid into another, and why written words are read again as they were.
pub mod Laid
pub mod RoundTrip
