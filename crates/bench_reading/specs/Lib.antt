-- The answers of cal and comp.
pub mod Reading
pub mod Examples
