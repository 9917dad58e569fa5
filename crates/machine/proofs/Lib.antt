-- Why what is said of the machine holds: the walk over its rules; that a refused event changes nothing; K12, K13 and the details, by computation.
pub mod Fields
pub mod Walk
pub mod Refused
pub mod Bench
pub mod Details
pub mod Bmp280
pub mod Third
