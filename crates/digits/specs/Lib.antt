-- The words of this crate's contracts.
pub mod Digits
pub mod Leaves
