-- Document 02, C-22: a damaged listing salvaged.
pub mod Salvage
-- ---- what is shown
pub mod Promise
pub mod Entry
-- ---- the words of the code's contracts
pub mod Turns
