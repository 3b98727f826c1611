-- What the function for C answers.
pub mod Replies
