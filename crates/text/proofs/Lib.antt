pub mod Digits
mod Lines
pub mod Session
