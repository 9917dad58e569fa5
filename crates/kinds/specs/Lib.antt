-- The kinds of part, and what each has of its own.
pub mod Chips
pub mod Figures
