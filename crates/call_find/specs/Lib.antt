pub mod Records
pub mod Scan
