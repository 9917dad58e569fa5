-- Standard input, read whole.
pub mod Input
