pub mod LiftLists
pub mod SideLists
pub mod CosineLists
pub mod LiftLaws
pub mod Stages
pub mod ThirdLaws
pub mod RotationLaws
pub mod PartLaws
