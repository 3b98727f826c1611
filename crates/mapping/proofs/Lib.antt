-- ---- what is promised
pub mod NeverShort
-- ---- what the proofs share
pub mod ReadKinds
pub mod Listed
pub mod Answered
pub mod Holding
pub mod Ends
-- ---- runs
pub mod Runs
