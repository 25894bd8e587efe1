pub mod Entries
pub mod Nodes
