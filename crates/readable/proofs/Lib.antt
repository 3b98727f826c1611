-- The laws of the listing for people.
pub mod Turns
pub mod Judged
-- ---- what is shown
pub mod NeverShort
pub mod Coincide
pub mod Runs
