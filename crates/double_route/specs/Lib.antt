pub mod Double
pub mod DoubleLaws
pub mod DoubleSignLaws
pub mod PieceLaws
pub mod DoubleSizeLaws
pub mod NearLaws
pub mod StepLaws
pub mod FrontLaws
