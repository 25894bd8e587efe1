-- What the proofs of this crate use.
pub mod Parts
pub mod Ends
pub mod Known
