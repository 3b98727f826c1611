-- ---- what is promised
pub mod Done
pub mod ToldDone
-- ---- what the proofs share
pub mod Again
pub mod Changes
pub mod Rules
pub mod Walks
pub mod Told
pub mod InSlots
-- ---- runs
pub mod Runs
