-- What the proofs of several functions use.
pub mod Mark
pub mod Marks
pub mod Laws
