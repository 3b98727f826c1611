-- What the tables hold once a program was judged.
pub mod Assembling
pub mod Belonging
pub mod Starting
pub mod Verdicts
