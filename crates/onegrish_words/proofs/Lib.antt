-- Why kept words answer as their blocks do.
pub mod RoundTrip
