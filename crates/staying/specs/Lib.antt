-- Why a form stays: what is tried at each place, and what stands in its way.
pub mod Reasons
pub mod Lines
-- ---- what is shown
pub mod Promise
pub mod Exactly
