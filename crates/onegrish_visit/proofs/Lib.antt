-- The second calls go with the first.
pub mod Together
