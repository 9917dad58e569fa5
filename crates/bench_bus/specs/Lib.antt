-- The answers of i2c and spi.
pub mod Messages
