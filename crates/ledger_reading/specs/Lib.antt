-- What compensation makes of what a whole close shows.
pub mod Reading
