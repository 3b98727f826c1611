-- Document 02, C-24: a run under a setting of the store.
pub mod Under
-- ---- what is shown
pub mod Promise
