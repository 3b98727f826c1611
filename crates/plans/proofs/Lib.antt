-- The laws behind the reading of lines.
pub mod Planned
pub mod ReadOnce
pub mod Worded
pub mod Parts
pub mod Counted
pub mod Commented
pub mod Narrowed
pub mod Formed
pub mod Heads
pub mod Lined
pub mod Fronts
pub mod Wholes
pub mod Statements
pub mod DifferentLines
pub mod Runs
