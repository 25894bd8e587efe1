pub mod Stores
pub mod Flags
pub mod Records
pub mod Groups
pub mod Written
