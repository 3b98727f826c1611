-- C-19: a frame's bytes in a room of 120.
pub mod Laying
pub mod Speaking
