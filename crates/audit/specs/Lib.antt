-- An image held against what its long listing shrinks to.
pub mod Audit
-- ---- what is shown
pub mod Promise
-- ---- words of the code's contracts
pub mod Held
