pub mod Stepping
pub mod Values
pub mod Index
