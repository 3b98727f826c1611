-- C-13 under the optimizer's own list, proved.
-- ---- what a rewrite leaves in a slot
pub mod Turned
-- ---- the frames of a listing
pub mod Frames
-- ---- the changes, one for each slot
pub mod SlotBySlot
-- ---- the whole
pub mod Own
