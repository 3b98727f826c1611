-- Adding alters no old edition; dropping keeps the newest and gives room back; the bytes hold the store; a store made so is never 19.
pub mod SwitchBits
pub mod OldOnesStay
pub mod NewestStays
pub mod RoomHolds
pub mod Afterwards
pub mod ShowsAll
pub mod Never19
pub mod Causes
pub mod Lacking
-- ---- what the code's contracts say
pub mod Coincide
-- ---- laws of the code
pub mod PlaceByPlace
pub mod Rewritten
pub mod JudgedFirst
pub mod Ranges
pub mod Answered
-- ---- runs that the checker computes
pub mod Runs
