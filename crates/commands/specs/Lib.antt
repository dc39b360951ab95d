-- The command grammar, on lists of bytes.
pub mod Bytes
pub mod Grammar
pub mod Words
pub mod Values
