-- The promises and what they rest on, each file named after what it says. The promises: Accepted, OneResult, RefusedOnce, FirstFault, Shorter, RunEnds,
-- Acceptable, ImageOfOutput, TargetKept, Demand3, OutputRoom, DecidedEarly, ReadsBack, Entry.
pub mod General
pub mod Says
-- ---- what reading says
pub mod Parses
pub mod RoundTrip
pub mod Sounds
pub mod Frames
pub mod Listings
-- ---- judging
pub mod Passes
pub mod Alike
pub mod Positions
pub mod Retargets
pub mod Compacts
-- ---- demand 2
pub mod Accepted
pub mod OneResult
-- ---- demand 1
pub mod Numbers
pub mod RefusedOnce
pub mod FirstFault
pub mod Amounts
-- ---- what a rewrite does
pub mod Looks
pub mod Steps
pub mod Weights
-- ---- the chain of rewrites ends
pub mod Shorter
pub mod Chains
pub mod Anchors
pub mod RunEnds
pub mod Acceptable
pub mod Rises
pub mod ImageEnds
-- ---- the output
pub mod WritesBack
pub mod Shows
pub mod ImageOfOutput
pub mod CommentsAside
-- ---- targets
pub mod Ranks
pub mod Carried
pub mod TargetKept
pub mod Demand3
-- ---- room
pub mod FrameRoom
pub mod ImageRoom
pub mod OutputRoom
pub mod DecidedEarly
-- ---- the output read back
pub mod SoundEnd
pub mod FramesBack
pub mod TextBack
pub mod ReadsBack
pub mod LinesAside
-- ---- all of it, down to the entry
pub mod Entry
