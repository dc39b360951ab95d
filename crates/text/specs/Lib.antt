-- The output text.
pub mod Text
pub mod Write
pub mod Digits
