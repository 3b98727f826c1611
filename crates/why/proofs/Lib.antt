-- ---- what is promised
pub mod AllTold
-- ---- what an edit in a copy of the state says of the attempt, and the tries one by one
pub mod Verdicts
pub mod Found
pub mod Said
pub mod Numbers
pub mod Bytes
pub mod Walks
-- ---- what the entry answers
pub mod Told
