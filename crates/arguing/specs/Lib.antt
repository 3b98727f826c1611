-- C-19: the arguments of an instruction.
pub mod Answers
