-- The map of a listing: where each instruction and each piece of data stands in the long image and in the short one.
pub mod Rows
-- ---- what the entry answers, and words of the code's contracts
pub mod Entry
