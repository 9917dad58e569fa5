-- Outcomes as text.
pub mod Outcomes
