-- Playing a round: its contract, the lines of its report, and the laws that its proofs cite.
pub mod Lines
pub mod Contract
pub mod Questions
pub mod Ready
pub mod LineLaws
pub mod CabLaws
pub mod Laws
