-- What the functions for C answer, and what they leave in the lent rooms.
pub mod Replies
pub mod Pages
pub mod Aims
pub mod Stems
