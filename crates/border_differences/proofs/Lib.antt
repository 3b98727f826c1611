-- What is shown of the functions for C.
pub mod Said
-- ---- two results coincide
pub mod Coincide
