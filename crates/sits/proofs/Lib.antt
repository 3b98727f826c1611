-- ---- what is promised
pub mod FullLayout
pub mod AsEach
pub mod Causes
pub mod Coincide
-- ---- what the proofs share
pub mod LinesBefore
pub mod Reading
pub mod Laying
pub mod AllLaid
-- ---- runs
pub mod Runs
