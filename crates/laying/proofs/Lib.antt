-- The laws behind a frame's bytes.
pub mod Laying
pub mod Speaking
