-- What the proofs cite of a text's parts.
pub mod Fronts
