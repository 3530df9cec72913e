pub mod CallLaws
pub mod FittingLaws
pub mod RunLaws
