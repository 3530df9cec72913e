pub mod Steps
pub mod Positions
pub mod Answer
pub mod Packed
