-- The laws behind the words that lines begin with.
pub mod Numbered
pub mod Fronting
