-- What it means that the plain road is tried.
pub mod Tried
