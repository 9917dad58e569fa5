-- What the proofs of more than one function cite, and what the definitions are shown to mean.
pub mod EveryCode
pub mod Bounds
pub mod FirstReady
pub mod OneAnswer
pub mod Examples
pub mod Polls
