pub mod ValueLaws
pub mod RecordLaws
pub mod YieldLaws
pub mod NullaryLaws
pub mod OperatorLaws
