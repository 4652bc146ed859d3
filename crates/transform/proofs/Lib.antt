pub mod Twice
pub mod Shifts
