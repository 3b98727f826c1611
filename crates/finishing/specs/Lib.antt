-- An end form and the rooms that it is to fit.
pub mod Ending
