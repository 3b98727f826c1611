-- C-19: what the readers answer.
pub mod Answering
