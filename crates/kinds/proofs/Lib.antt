-- What ties the figures of a row to each other.
pub mod Figures
