-- The walk of an image by a map, without a listing. Definitions only.
pub mod Stands
pub mod Maps
-- ---- what is shown of the map that is handed out, and of the entry
pub mod Rows
pub mod Entry
