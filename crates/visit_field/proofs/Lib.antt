-- How far a front moves, and that it is the front of the definitions.
pub mod Moves
pub mod Same
