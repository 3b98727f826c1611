-- ---- what is promised
pub mod Orders
pub mod Longest
-- ---- what the proofs share, and what the crate above cites
pub mod DigitsBack
pub mod Accepted
pub mod Finding
pub mod Frames
pub mod EntryList
pub mod Tables
