-- What holds of a program under rewriting.
pub mod Standing
pub mod Deepest
pub mod Shrinks
pub mod Reach
pub mod Folds
