-- What the promises of the functions rest on.
pub mod Ranges
pub mod Fields
pub mod Codes
