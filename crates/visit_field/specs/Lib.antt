-- The front of a field at an offset, and that it is the front of the bytes from there to the group's end.
pub mod Front
pub mod Same
