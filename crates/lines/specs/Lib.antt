-- The lines of an input, and the splitter that finds them in bytes as they come.
pub mod Lines
pub mod Feeding
pub mod Session
pub mod Splits
