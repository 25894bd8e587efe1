-- What the proofs of this and of other crates use.
pub mod Steps
pub mod Table
pub mod Trees
