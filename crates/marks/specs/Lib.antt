-- C-19: the forms by mark.
pub mod Narrowing
