-- Which statements can end a walk. Definitions only.
pub mod Endings
