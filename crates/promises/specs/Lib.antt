-- What is promised, each statement under the customer's own sentence. Definitions only: proofs/ has a file for each promise.
pub mod Demand1
pub mod Faults
pub mod Demand2
pub mod Demand3
pub mod Room
pub mod Pads
-- ---- all of it, down to the entry
pub mod Entry
