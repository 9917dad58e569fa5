-- Values read from text.
pub mod Same
pub mod Typed
pub mod Examples
