-- A visit as text.
pub mod Text
pub mod Examples
