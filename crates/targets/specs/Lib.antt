-- What the transfers name, in the input and in the output.
pub mod Targets
-- ---- what is shown
pub mod Promise
pub mod InOutput
-- ---- what the entry answers, and words of the code's contracts
pub mod Entry
pub mod Aimed
