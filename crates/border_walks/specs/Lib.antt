-- What the functions for C answer: the map.
pub mod Maps
