-- The bench sheet: what a row is, and the rows; and that they all hold.
pub mod Row
pub mod Figures
pub mod Walks
pub mod Sheet
