pub mod Session
pub mod Splits
