pub mod Floats
pub mod FloatLaws
pub mod EndLaws
