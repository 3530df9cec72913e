pub mod WriteRecordLaws
pub mod WritePlanLaws
