-- Words of 8 bits, and what is answered where a test holds.
pub mod Bytes
