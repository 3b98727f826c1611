-- A listing that is accepted, and the tables that hold its anchored program.
pub mod Begun
