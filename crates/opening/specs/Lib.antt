-- Opening a day: its contract, and the laws that its proof cites.
pub mod Contract
pub mod Laws
