-- Stores of numbers and of zeros
pub mod Stores
-- A sheet, argument by argument
pub mod Sheets
