pub mod Given
pub mod Keys
pub mod Answered
