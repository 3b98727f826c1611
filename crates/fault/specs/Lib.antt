-- The number, place and amount of a refusal.
pub mod Faults
