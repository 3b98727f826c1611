-- What the encoding of a program's slots is judged with, and what the code's answers say in the words of document 01's definitions.
pub mod Tables
pub mod Encoding
pub mod Image
