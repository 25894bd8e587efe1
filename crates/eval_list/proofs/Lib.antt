pub mod Runs
pub mod Trees
pub mod Rows
pub mod Nodes
pub mod Options
pub mod Sides
