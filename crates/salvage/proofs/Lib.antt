-- What is salvaged is read (NeverRefused), good lines come out as they are (AsSaid), and a good listing unchanged (Unchanged).
-- What is told of a line is 1 or 2 (OneOrTwo), and there are rooms that are never too short (NeverShort).
pub mod Feedless
pub mod Moved
pub mod Goods
pub mod NeverRefused
pub mod Unchanged
pub mod AsSaid
pub mod OneOrTwo
pub mod NeverShort
-- ---- the code: a turn of the walk, the answer
pub mod Steps
pub mod Whole
pub mod Outcomes
-- ---- runs
pub mod Runs
