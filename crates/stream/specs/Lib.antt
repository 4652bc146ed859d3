pub mod Synthesis
pub mod Steps
pub mod StepLaws
pub mod NextLaws
