-- What the proofs of several functions use.
pub mod Bits
pub mod Owners
pub mod Lookups
pub mod Absent
