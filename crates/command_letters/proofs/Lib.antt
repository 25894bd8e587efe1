-- What the proofs of this and of other crates use.
pub mod Inserts
pub mod Gathers
pub mod Tables
