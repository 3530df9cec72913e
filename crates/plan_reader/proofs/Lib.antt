pub mod ReadRecordLaws
pub mod ReadingLaws
