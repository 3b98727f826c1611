-- What this crate's answers say, in the words of document 01's definitions.
pub mod Operands
pub mod Encode
