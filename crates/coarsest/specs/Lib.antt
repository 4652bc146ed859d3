pub mod Coarsest
pub mod SteppedLaws
pub mod TrialLaws
