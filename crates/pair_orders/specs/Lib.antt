pub mod Orders
pub mod Promise
