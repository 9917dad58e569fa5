-- Rows as text.
pub mod Row
pub mod Examples
