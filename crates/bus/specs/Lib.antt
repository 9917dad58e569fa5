-- Bus bytes: what the crate's promises cite.
pub mod RegisterByte
pub mod Pairs
pub mod Devices
pub mod Lent
pub mod Writing
pub mod Reading
