-- What the proofs share.
pub mod NameLaws
