-- What more than one proof of the humidity cites, and its table of needs.
pub mod Ranges
pub mod Needs
