pub mod Analysis
pub mod AnalysisLaws
pub mod Routes
