pub mod Tells
pub mod Optionals
pub mod Fallbacks
pub mod Guards
pub mod Choices
pub mod Alone
pub mod Words
