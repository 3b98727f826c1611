-- Laws of change jumps and of anchored targets.
pub mod Jumps
pub mod Targets
pub mod Retargets
