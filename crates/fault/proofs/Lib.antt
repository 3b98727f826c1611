pub mod Told
-- ---- two results coincide
pub mod Coincide
