-- Why what is shown is read back.
pub mod Digits
pub mod Degrees
pub mod Again
