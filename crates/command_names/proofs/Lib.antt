-- What the proofs of this crate use.
pub mod Candidates
pub mod Passing
pub mod Laws
