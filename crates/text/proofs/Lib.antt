pub mod OutputLaws
pub mod SearchLaws
