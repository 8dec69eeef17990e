pub mod Deliveries
pub mod inside
