-- C-17: where statement n sits.
pub mod Sits
pub mod All
-- ---- what is shown
pub mod Promise
-- ---- words of the code's contracts
pub mod Before
