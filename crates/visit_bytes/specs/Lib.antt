-- The bytes that a step adds to a record, and how they are laid down.
pub mod Bytes
pub mod Laid
