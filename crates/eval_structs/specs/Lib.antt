pub mod Decisions
pub mod Laws
