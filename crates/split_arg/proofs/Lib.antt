pub mod Equals
pub mod Names
pub mod LookUp
pub mod Order
pub mod Records
pub mod Tags
