pub mod Made
pub mod Unchanged
