-- ---- what is promised
pub mod Findings
pub mod Demands
pub mod Coincide
-- ---- what the proofs share
pub mod Alike
pub mod Ends
-- ---- runs
pub mod Runs
