-- What the proofs of several functions use.
pub mod Letters
pub mod Answers
