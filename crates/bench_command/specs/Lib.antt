-- Lines read into commands.
pub mod Words
pub mod Table
pub mod Arguments
pub mod Commands
pub mod Examples
