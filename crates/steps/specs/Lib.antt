-- The rewrites of a run, one by one.
pub mod Steps
-- ---- what is shown
pub mod Promise
-- ---- what the entry answers, and words of the code's contracts
pub mod Entry
