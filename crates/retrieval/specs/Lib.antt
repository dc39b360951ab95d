-- The schedule rule (document 01). Definitions first: what a film sends and what a schedule is, the just-in-time schedule, the
-- least reserve, a film where it stands in the file, one round, a list by round. Carry.antt is the form that the code computes
-- by. Theorems.antt has the paper's claims, Laws.antt the laws by name.
pub mod Schedule
pub mod JustInTime
pub mod LeastReserve
pub mod Carry
pub mod Stored
pub mod Round
pub mod Sheet
pub mod SheetLaws
