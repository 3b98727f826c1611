-- C-16: a listing for people.
pub mod Readable
-- ---- what is shown
pub mod Promise
-- ---- words of the code's contracts
pub mod Writing
