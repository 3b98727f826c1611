-- A line by itself, and what comes out for it.
pub mod Feeds
pub mod ByItself
pub mod Comments
