pub mod LoopLaws
pub mod OpeningLaws
pub mod Pictured
pub mod RunLaws
pub mod StepLaws
pub mod Writing
pub mod FileLaws
