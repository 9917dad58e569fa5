-- Why compensation by the kind of part is what it is stated to be.
pub mod Tests
pub mod Both
pub mod Examples
