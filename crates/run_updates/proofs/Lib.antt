pub mod StateLaws
pub mod HistoryLaws
pub mod UpdateLaws
pub mod PutLaws
