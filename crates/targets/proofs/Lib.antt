-- ---- what is promised
pub mod SaidSame
pub mod ToldSame
pub mod InOutput
pub mod Unmarked
pub mod NeverShort
-- ---- what the proofs share
pub mod Coming
pub mod Same
pub mod Listed
pub mod Reading
pub mod Answered
-- ---- runs
pub mod Runs
