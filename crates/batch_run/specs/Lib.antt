pub mod Sheets
pub mod Told
