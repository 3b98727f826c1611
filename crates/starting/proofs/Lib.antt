-- ---- what is promised
pub mod Accepts
-- ---- what the proofs share
pub mod Begins
