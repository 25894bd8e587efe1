pub mod Sheets
pub mod States
pub mod Lines
pub mod Plain
