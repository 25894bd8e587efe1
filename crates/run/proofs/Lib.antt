pub mod Within
pub mod Back
pub mod States
pub mod Begun
pub mod Runs
pub mod Told
