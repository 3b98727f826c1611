-- An image and the room that it is to fit.
pub mod Fitting
