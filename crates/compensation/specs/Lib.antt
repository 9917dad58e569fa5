-- Compensation: from the blocks, the eight bytes and the codes to the three channels.
pub mod Compensation
pub mod Missing
