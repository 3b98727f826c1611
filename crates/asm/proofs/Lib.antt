pub mod Carrying
pub mod Passing
pub mod Ending
pub mod OriginsBack
pub mod Finding
pub mod Started
pub mod Finds
