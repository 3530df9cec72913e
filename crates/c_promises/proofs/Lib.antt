pub mod Promised
pub mod RunUndone
pub mod FreeCalls
pub mod Answers
