pub mod AnswerLaws
pub mod FileAnswers
pub mod Sizes
pub mod Written
