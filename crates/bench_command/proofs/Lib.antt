-- What the proofs cite of the table and its rows.
pub mod Counting
pub mod Opening
pub mod Trying
