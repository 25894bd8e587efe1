pub mod Commanded
pub mod Chosen
