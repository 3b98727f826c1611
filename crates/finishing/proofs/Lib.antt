pub mod Deliveries
pub mod Ended
