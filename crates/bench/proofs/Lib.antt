-- What the proofs of this crate use.
pub mod Decimal
pub mod Appending
pub mod Reported
