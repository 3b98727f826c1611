-- Each file proves what it is named after.
-- ---- definitions once more
pub mod ByAddress
pub mod First32
pub mod Offsets
pub mod Bytes
-- ---- refusals by number
pub mod Refusals
pub mod Parts
pub mod Expressions
pub mod Rows
pub mod LongFrames
pub mod PartRows
pub mod OwnCauses
pub mod AfterAssembly
-- ---- what a kept target names
pub mod Named
-- ---- what is carried
pub mod Recarried
pub mod Uncarried
-- ---- source lines
pub mod LinesRead
pub mod LinesWritten
pub mod LinesAlone
-- ---- down to the entry
pub mod Entry
