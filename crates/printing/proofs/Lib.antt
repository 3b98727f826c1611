pub mod Places
pub mod Lines
pub mod OtherLines
pub mod Pages
-- ---- what the contracts say
pub mod Coincide
pub mod Demands
