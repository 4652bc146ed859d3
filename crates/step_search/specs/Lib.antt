pub mod Search
pub mod Progress
pub mod SearchLaws
pub mod ProgressLaws
