-- Why the doubles are exact and the comparison honest; and worked cases.
pub mod Bits
pub mod Pattern
pub mod Exact
pub mod Honest
pub mod Examples
