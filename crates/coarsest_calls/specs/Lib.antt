pub mod Answers
pub mod CoarsestCalls
pub mod CoarsestCallLaws
