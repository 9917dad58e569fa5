-- Each answer against the maker's formula with no check.
pub mod Exact
pub mod Within
