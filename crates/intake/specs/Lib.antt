-- C-19: a whole text.
pub mod Intake
-- ---- the words of the code's contracts
pub mod Turns
