pub mod Analysis
pub mod Synthesis
pub mod FoldLaws
pub mod SizeLaws
pub mod HopLaws
pub mod DirectLaws
pub mod InverseLaws
pub mod Stages
