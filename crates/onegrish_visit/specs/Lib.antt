-- What the library for visit records hands to C.
pub mod Handed
