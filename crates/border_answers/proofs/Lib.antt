pub mod Same
pub mod Asked
