-- What the proofs of this crate use.
pub mod Lines
pub mod Parts
pub mod Ends
