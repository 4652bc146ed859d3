pub mod AnswerLaws
pub mod Answers
