pub mod Answers
pub mod Streams
pub mod States
pub mod StreamLaws
pub mod StateLaws
