-- Document 02, C-21: an image as a listing of plain instructions.
pub mod ReadBack
-- ---- the words of the code's contracts
pub mod Frames
pub mod Walks
-- ---- what is shown
pub mod Promise
pub mod Entry
