pub mod Analysis
pub mod AnalysisLaws
