-- What the proofs of several functions use, and the laws of the search.
pub mod Scan
pub mod Ends
pub mod Laws
