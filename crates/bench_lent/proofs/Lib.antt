-- Laws of a buffer's front, for whoever lends one.
pub mod Front
pub mod Back
