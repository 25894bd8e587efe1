pub mod Nodes
pub mod Gathering
pub mod Answers
