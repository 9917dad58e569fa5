-- Why the sheet holds; and K5 to K7 for all words that play no part.
pub mod Agree
pub mod Sheet
pub mod Free
