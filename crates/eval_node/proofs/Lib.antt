pub mod Hints
pub mod Turns
pub mod Lasts
