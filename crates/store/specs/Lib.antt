-- Document 02, C-24: settings kept by edition.
pub mod Switches
pub mod Store
pub mod Rooms
pub mod Changes
-- ---- what is shown
pub mod Promise
