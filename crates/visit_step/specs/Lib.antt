-- A step at a place of a lent list.
pub mod Places
