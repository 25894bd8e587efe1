pub mod Checks
pub mod Splits
