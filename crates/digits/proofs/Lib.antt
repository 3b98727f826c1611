-- A piece stored in a room.
pub mod Rooms
pub mod Left
