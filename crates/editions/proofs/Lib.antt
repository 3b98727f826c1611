-- What a run under an edition promises.
pub mod FoundFirst
pub mod Demands
pub mod StoreChanged
pub mod Coincide
-- ---- runs that the checker computes
pub mod Runs
