pub mod Decoded
pub mod Pairs
