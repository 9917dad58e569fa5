-- Why the layout goes both ways.
pub mod RoundTrip
