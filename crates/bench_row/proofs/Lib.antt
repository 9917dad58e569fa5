-- Laws that both loops cite.
pub mod Laws
