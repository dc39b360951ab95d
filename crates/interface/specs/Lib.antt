-- The interface for C and Rust: what each function answers and leaves, as definitions over everything that it is lent, and the laws by
-- which a call over a lent list of records is the call over its first 256 rows.
pub mod Records
pub mod Reply
pub mod FilmCalls
pub mod PlanCalls
pub mod Same
pub mod Calls
pub mod DeskCalls
pub mod AsMade
pub mod Unaltered
pub mod ReplayCall
