-- What is read of a film file (document 01): the reader's entries, the size of a round, the summary.
pub mod Reader
pub mod ReaderLaws
pub mod Rounds
pub mod Summary
