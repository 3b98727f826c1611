-- C-16 and C-19 joined.
pub mod Joined
