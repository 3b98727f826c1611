-- ---- what is promised
pub mod Applies
pub mod Says
pub mod Kept
pub mod TextBack
pub mod Whole
pub mod Refused
pub mod Coincide
-- ---- runs
pub mod Runs
-- ---- what the proofs share
pub mod Bytes
pub mod Pieces
pub mod Steps
pub mod Turns
pub mod Sizes
pub mod Paired
pub mod Outcomes
