-- The papers' numbers: bounds with their unit, and refusals with their question.
pub mod Bounds
pub mod Refusals
pub mod Numbered
