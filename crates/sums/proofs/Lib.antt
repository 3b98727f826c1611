-- The laws behind the readers of expressions.
pub mod Readings
