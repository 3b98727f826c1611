-- What holds of a program under rewriting.
pub mod Branches
pub mod Optimized
