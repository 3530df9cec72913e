pub mod StepLaws
pub mod ReachLaws
pub mod PassLaws
pub mod ValueLaws
pub mod ItemLaws
pub mod IndexLaws
