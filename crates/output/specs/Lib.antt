-- What is written for the slots of a program.
pub mod Digits
pub mod Lines
pub mod Stems
pub mod Showing
