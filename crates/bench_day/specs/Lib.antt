-- The answers of day.
pub mod Shown
pub mod Days
pub mod Examples
