-- A session of the program, command by command, by definition; and what is proved of every session.

-- ---- Definitions, in the order to read them in

pub mod Session
pub mod Contract
pub mod PlainSession
-- ---- Document 01's own session

pub mod Example
-- ---- What the claim rests on

pub mod PlainParts
