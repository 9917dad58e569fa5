-- Values as text.
pub mod Figures
pub mod Examples
