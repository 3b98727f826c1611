-- The laws behind labels, variables, orgs and pads.
pub mod Named
pub mod Counting
