-- Two answers that a promise allows are equal; and what stands in a channel's place.
pub mod OneAnswer
pub mod Missing
