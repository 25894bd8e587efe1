-- What the proofs of several functions use.
pub mod Counting
pub mod Climbing
pub mod Verdict
