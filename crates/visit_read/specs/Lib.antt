-- What the reader answers; and the reader over places in the whole record, as its code goes, which proofs/ shows to read what the definitions of visit read.
pub mod Answers
pub mod Slots
pub mod Groups
pub mod Whole
