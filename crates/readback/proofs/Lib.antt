-- An image that is read back assembles to the same bytes (SameBytes), and an assembled image gives its instructions again (SameListing).
pub mod Short
pub mod One
pub mod All
pub mod SameBytes
-- ---- the code: a frame, the walk, the answer
pub mod Pieces
pub mod Arguments
pub mod Instructions
pub mod OneFrame
pub mod Turns
pub mod Orgs
pub mod Judged
pub mod Outcomes
pub mod Coincide
-- ---- the other way
pub mod Again
pub mod SameListing
-- ---- runs
pub mod Runs
