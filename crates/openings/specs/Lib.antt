-- C-19: the words that lines begin with, by number, and what is said of a line and a word.
pub mod Numbered
pub mod Fronting
