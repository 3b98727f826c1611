-- The laws behind the writer of lines.
pub mod Datas
pub mod Arguings
pub mod Lineds
