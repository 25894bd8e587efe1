-- What the proofs of several functions use.
pub mod Given
pub mod Owners
