-- ---- what is promised
pub mod WalksOn
-- ---- runs
pub mod Examples
-- ---- what the proofs share
pub mod Comes
