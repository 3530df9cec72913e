pub mod Pair
pub mod Examples
pub mod Promise
