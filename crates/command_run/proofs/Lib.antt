pub mod Chosen
pub mod Reports
