-- When the plain road of a whole reading is tried, and what it leaves.
pub mod Plain
