-- A chip's words as text.
pub mod Words
