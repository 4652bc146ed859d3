pub mod HalfLaws
pub mod Windows
