-- ---- of document 01's definitions alone
pub mod Answers
pub mod Placed
-- ---- of the slots
pub mod Operands
pub mod Worths
pub mod Fields
pub mod Items
pub mod Passes
pub mod DataSlots
-- ---- of the image
pub mod Rooms
pub mod Images
