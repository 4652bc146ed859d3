pub mod RowLaws
pub mod OutputLaws
pub mod HopReading
