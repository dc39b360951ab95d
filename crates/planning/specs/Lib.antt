-- What the calls for a schedule and for a least reserve answer (document 01, 'Questions at the counter'), and the laws by which
-- the code answers it.
pub mod Answers
