-- Why forms stay: what is promised, and runs.
pub mod Stays
pub mod Complete
pub mod Listed
pub mod Exactly
pub mod Few
pub mod Runs
