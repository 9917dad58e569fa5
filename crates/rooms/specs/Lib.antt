-- What the map room is given: cells and points, two rooms compared; that the doubles are exact and the comparison honest.
pub mod Points
pub mod Compared
pub mod Exact
pub mod Honest
