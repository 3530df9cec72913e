pub mod CallLaws
pub mod OutcomeLaws
pub mod Promised
