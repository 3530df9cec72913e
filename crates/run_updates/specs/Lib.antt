pub mod Tallying
pub mod State
pub mod HistoryKinds
pub mod Updating
