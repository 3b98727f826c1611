-- The laws behind the arguments of an instruction.
pub mod Arguing
pub mod Together
