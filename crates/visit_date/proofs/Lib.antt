-- The law that the walk cites.
pub mod Walks
