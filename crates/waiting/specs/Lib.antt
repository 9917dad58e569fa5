-- Waiting and polling: what the crate's promises cite.
pub mod Waiting
pub mod Polling
pub mod FirstReady
