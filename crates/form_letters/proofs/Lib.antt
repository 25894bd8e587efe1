-- What the proofs of several functions use.
pub mod Words
pub mod Order
pub mod Tables
