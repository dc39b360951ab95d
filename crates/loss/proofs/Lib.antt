pub mod LossLaws
pub mod Obeyed
pub mod Rising
