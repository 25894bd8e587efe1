pub mod Known
pub mod Reported
