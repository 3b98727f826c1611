-- ---- what the entry answers
pub mod Entry
-- ---- what is shown
pub mod Promise
-- ---- words of the code's contracts
pub mod Tried
