-- The film file (document 01): its layout, its questions, the films of its bytes, and what is asked of them.
pub mod Layout
pub mod Sizes
pub mod Span
pub mod Questions
pub mod Decode
pub mod Catalogue
pub mod Lookup
pub mod Accepted
pub mod Encoded
pub mod Theorems
pub mod Examples
