pub mod Walk
pub mod Kinds
pub mod Steps
pub mod Relations
