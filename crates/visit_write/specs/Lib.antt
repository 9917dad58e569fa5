-- The writer: its answer in the paper's terms, and the walk back over the steps that lays down their bytes.
pub mod Answers
pub mod Walk
