-- The first start of a booking's window that fits, over streams and the sheet of the standing ones.
pub mod Fit
pub mod Search
pub mod Seen
