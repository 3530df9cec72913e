pub mod Loops
pub mod Rests
