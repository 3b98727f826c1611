-- C-23 proved. A program does what its machine does, a list of deeds by places; a rewrite folds the machine; the output shows the end form.
-- ---- what a walk is
pub mod Used
pub mod Examples
-- ---- machines
pub mod Deeds
pub mod Machines
pub mod Folds
pub mod Links
-- ---- names and targets by places
pub mod Lookups
pub mod Moves
pub mod Resolves
-- ---- one rewrite
pub mod Rewrites
pub mod Alikes
pub mod Inverts
pub mod Bounces
pub mod OneStep
-- ---- the input, the output
pub mod Inputs
pub mod Outputs
pub mod Comments
pub mod Shows
pub mod Again
-- ---- the whole, down to the entry
pub mod SameWalks
pub mod Entry
