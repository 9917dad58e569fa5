-- What the proofs of more than one function cite, and what the definitions are shown to mean.
pub mod Registers
pub mod FlatPairs
pub mod Buffers
pub mod Addresses
pub mod Shapes
pub mod Numbers
pub mod Wire
pub mod RoundTrip
pub mod OneAnswer
pub mod Examples
