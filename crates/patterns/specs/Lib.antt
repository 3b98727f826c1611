-- What the patterns' answers say, in the words of document 01's definitions.
pub mod Targets
pub mod Labels
pub mod Mentions
pub mod Shapes
pub mod Matches
pub mod Order
