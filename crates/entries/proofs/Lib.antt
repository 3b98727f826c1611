pub mod Phases
-- ---- the main entry
pub mod Stands
pub mod Starting
pub mod Listed
pub mod Results
-- ---- what the contracts say: two results coincide, and the demands
pub mod Coincide
pub mod Demands
pub mod HandsOut
