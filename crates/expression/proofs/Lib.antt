-- Laws of expressions that the proofs share, and the round trips.
pub mod Signed
pub mod Trees
pub mod RoundTrip
pub mod Ways
pub mod Entries
pub mod Keys
pub mod Alongs
pub mod Bares
pub mod Links
pub mod Tallies
