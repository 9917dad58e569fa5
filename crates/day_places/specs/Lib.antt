-- A row says its answer again; what a day answers at each place, and what two days make together.
pub mod Examples
pub mod Kept
pub mod Places
pub mod Records
