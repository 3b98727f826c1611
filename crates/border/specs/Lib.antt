-- What the functions for C answer.
pub mod Exported
pub mod Salvaging
