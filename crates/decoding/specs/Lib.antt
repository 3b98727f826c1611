-- Document 02, C-21: what a byte begins, and what the bytes of an instruction hold of its arguments.
pub mod Opcodes
pub mod Cells
pub mod Operands
pub mod Runs
pub mod Numbers
-- ---- what is shown
pub mod Promise
