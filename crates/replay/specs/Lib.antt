pub mod Words
pub mod Calls
pub mod Cases
pub mod List
