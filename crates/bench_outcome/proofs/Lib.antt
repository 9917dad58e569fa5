-- A law that two proofs cite.
pub mod Bits
