-- Why what Places.antt states holds.
pub mod Chunks
pub mod EachPlace
pub mod Examples
pub mod Joined
pub mod Kept
pub mod Records
