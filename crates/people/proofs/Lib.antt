-- The laws behind the reader of a line.
pub mod Rows
pub mod Answers
