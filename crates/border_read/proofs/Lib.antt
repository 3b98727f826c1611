-- What is shown of the function for C.
pub mod Coincide
