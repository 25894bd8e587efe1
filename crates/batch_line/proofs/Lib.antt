-- What the proofs of this and of other crates use.
pub mod Sheet
