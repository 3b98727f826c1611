-- What the answers on change jumps and anchored targets say, in the words of document 01's definitions.
pub mod Changes
pub mod Anchored
