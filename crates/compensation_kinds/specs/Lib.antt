-- Compensation by the kind of part, and what holds of it.
pub mod Kinds
pub mod Both
