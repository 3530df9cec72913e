pub mod GrowLaws
pub mod RecordLaws
pub mod OperandLaws
pub mod WalkLaws
pub mod SizeLaws
pub mod KeptLaws
