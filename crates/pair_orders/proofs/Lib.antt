pub mod OrderLaws
pub mod FreeOrders
