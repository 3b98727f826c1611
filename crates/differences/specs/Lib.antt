-- C-13: exact differences of two listings.
pub mod Changes
pub mod Differences
-- ---- what is shown
pub mod Promise
-- ---- words of the code's contracts
pub mod Walks
pub mod Entry
