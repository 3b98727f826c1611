-- What is shown of the functions for C.
pub mod PrintsAll
-- ---- two results coincide
pub mod Coincide
-- ---- what the proofs share
pub mod Same
pub mod Aimed
