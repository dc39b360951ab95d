-- Dropping a booking: its contract, the desk without it, and what the sheet of the rest is worked out from.
pub mod Contract
pub mod Removal
pub mod Standing
