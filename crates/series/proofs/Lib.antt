-- The laws behind items of data and the bytes of comments.
pub mod Itemized
pub mod Hexes
