-- Arguments of a line read.
pub mod Words
pub mod Reading
pub mod Examples
