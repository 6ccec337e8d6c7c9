pub mod Hearing
pub mod Deliveries
