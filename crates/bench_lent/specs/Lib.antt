-- The buffers that the bench lends.
pub mod Lent
