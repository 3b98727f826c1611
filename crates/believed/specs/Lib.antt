-- What a reader can hold against the documents line by line: statements and definitions only, proofs/ has a file for each.
-- ---- definitions once more, in the form that is easiest to believe
pub mod ByAddress
pub mod First32
pub mod Offsets
-- ---- promises
pub mod Bytes
pub mod Causes
pub mod LinesAlone
pub mod Named
pub mod Uncarried
-- ---- down to the entry
pub mod Entry
