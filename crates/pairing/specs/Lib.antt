-- C-13: which statements of two listings are paired.
pub mod Pairings
-- ---- what is shown
pub mod Promise
-- ---- words of the code's contracts
pub mod Lines
pub mod Tables
