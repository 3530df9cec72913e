pub mod Analysis
pub mod Promise
