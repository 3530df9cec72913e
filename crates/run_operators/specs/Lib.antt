pub mod Machine
pub mod Evaluating
