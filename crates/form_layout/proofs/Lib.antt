-- What the proofs of this and of other crates use.
pub mod KindNumbers
pub mod Sizes
