-- What is shown of a whole text.
pub mod Coincide
pub mod NeverShort
pub mod Computing
pub mod Runs
-- ---- the laws behind the code
pub mod Judging
pub mod Steps
pub mod Written
pub mod Outcomes
