-- How a file was shown.
pub mod Ended
