-- What is shown is read back.
pub mod Again
