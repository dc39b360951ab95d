-- Definitions of the test programs' scripts.
pub mod Checksum
pub mod Operands
