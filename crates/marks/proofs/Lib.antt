-- The laws behind the forms by mark.
pub mod Narrowing
