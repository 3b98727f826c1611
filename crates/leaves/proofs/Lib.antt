-- The laws behind the readers of numbers and names.
pub mod Leafs
pub mod Puts
