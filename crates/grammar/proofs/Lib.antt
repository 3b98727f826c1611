-- The laws behind the reading of expressions.
pub mod Takes
pub mod Digits
pub mod Lexes
pub mod Spaces
pub mod Classes
pub mod Starts
pub mod Goings
pub mod Determined
pub mod Complete
pub mod RoundTrip
pub mod Computing
