-- C-19: lines as plans.
pub mod Plans
pub mod Words
pub mod Families
pub mod Finals
pub mod Lines
pub mod Fronts
