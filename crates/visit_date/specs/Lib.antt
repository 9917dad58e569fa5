-- Dates: the calendar, and moments of it.
pub mod Dates
pub mod Examples
