-- The laws behind the writer of expressions.
pub mod Writes
pub mod Tolds
