pub mod Answers
pub mod LevelCalls
pub mod Brought
pub mod LevelCallLaws
