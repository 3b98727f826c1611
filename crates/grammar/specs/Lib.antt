-- C-19: the grammar of the people's listing, and how an expression is read.
pub mod Reading
pub mod Going
