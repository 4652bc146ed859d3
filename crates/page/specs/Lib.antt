pub mod Page
pub mod PageLaws
pub mod AnswerLaws
