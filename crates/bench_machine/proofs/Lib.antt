-- Why the bench shows what a close leaves.
pub mod Left
