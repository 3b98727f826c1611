pub mod Rooms
pub mod Frames
pub mod Targets
pub mod Slots
pub mod Listings
pub mod Left
pub mod Shows
pub mod Sizes
