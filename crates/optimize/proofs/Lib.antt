pub mod Tries
pub mod Branches
pub mod Names
pub mod Shorter
pub mod Ends
