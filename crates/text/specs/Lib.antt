-- Document 02, C-16: the listing for people, one line a statement.
pub mod Text
-- ---- words of the code's contracts
pub mod Words
-- ---- the statements that have a line
pub mod Fits
