-- Booking: its contract, its own questions, and a request placed.
pub mod Contract
pub mod Own
pub mod Append
pub mod Place
pub mod Placed
