-- Counting up
pub mod Digits
-- What is read
pub mod Reading
-- What is written
pub mod Writing
-- A line of lengths and places, and the next one
pub mod Lines
-- The step against the definition
pub mod Next
