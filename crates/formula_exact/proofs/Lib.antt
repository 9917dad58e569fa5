-- Why what Exact.antt states holds.
pub mod Exact
pub mod Within
