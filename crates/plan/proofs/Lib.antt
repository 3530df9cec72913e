pub mod ReadPlanLaws
pub mod Promised
