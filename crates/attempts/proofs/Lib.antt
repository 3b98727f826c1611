-- Laws of an edit in place: what it makes of the program, what stays known of the tables, and how it is undone.
pub mod Quiet
pub mod Edits
pub mod Attempts
pub mod Found
pub mod Depths
pub mod Missed
