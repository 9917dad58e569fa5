-- The answers of fresh, the eight events and ledger.
pub mod Outcomes
