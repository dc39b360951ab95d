pub mod Carrying
pub mod Claim
pub mod Example
pub mod Laws
pub mod PlainLaws
pub mod PlainParts
pub mod Stepping
pub mod Writing
