-- Where a walk over steps stands.
pub mod Places
