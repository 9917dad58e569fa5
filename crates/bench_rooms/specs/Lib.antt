-- Points, cells and verdicts as text.
pub mod Map
pub mod Examples
