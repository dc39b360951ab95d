pub mod Claim
pub mod Example
pub mod Laws
pub mod RunLaws
