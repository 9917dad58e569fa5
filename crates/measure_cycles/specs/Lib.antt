-- Forced cycles of the machine.
pub mod Cycles
