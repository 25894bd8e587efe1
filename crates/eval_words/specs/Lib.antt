pub mod Values
pub mod Stored
