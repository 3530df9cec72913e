pub mod ScopeLaws
pub mod OperandLaws
pub mod EvalLaws
pub mod BinaryLaws
pub mod BranchLaws
pub mod LoopLaws
