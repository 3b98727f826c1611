-- ---- what is promised
pub mod SameImages
pub mod MapRows
pub mod Exact
pub mod Entry
-- ---- runs
pub mod Examples
-- ---- what the proofs share
pub mod Seeks
pub mod Tells
