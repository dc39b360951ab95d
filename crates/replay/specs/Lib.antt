-- Replay: the journal's layout, the log's layout, what the plain day makes of a journal, and the laws that the proofs cite.

-- ---- Definitions, in the order to read them in

pub mod Journal
pub mod Log
pub mod PlainRun
pub mod Contract
-- ---- Laws that the proofs cite

pub mod DeskRun
pub mod Pictured
