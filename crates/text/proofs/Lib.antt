-- The laws of the listing for people.
pub mod Tables
pub mod Fits
pub mod Lengths
pub mod Computed
