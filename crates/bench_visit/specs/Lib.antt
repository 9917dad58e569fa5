-- The answers of visit read and visit write.
pub mod Line
pub mod Shown
pub mod Visits
pub mod Examples
