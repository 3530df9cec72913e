pub mod AnalysisLaws
pub mod Promised
