pub mod FitLaws
pub mod ProfileLaws
pub mod StepLaws
pub mod WindowLaws
