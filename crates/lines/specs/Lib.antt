-- Document 02, C-22: one line.
pub mod Alone
-- ---- the words of the code's contracts
pub mod Turns
