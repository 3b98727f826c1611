-- C-19: a line, read.
pub mod Reading
