pub mod MarkLaws
pub mod MarksKept
