-- What is shown of the functions for C.
pub mod ShowsRight
pub mod Same
pub mod Salvages
-- ---- two results coincide
pub mod Coincide
