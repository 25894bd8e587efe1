-- What the proofs of several functions use.
pub mod Tests
pub mod Keys
pub mod Takes
pub mod Entries
