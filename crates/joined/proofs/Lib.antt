-- What is shown of the two together.
pub mod Again
pub mod OldAgain
-- ---- the laws behind it
pub mod Feedless
pub mod Made
pub mod Whole
