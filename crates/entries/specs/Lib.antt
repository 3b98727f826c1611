-- What the entries answer and leave in the lent rooms.
pub mod Assembling
pub mod Stems
pub mod Optimizing
