-- A step's word in a line, read and shown.
pub mod Reading
pub mod Showing
pub mod Examples
