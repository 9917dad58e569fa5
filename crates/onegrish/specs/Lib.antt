-- What the library hands to C.
pub mod Lent
