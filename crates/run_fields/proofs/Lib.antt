pub mod Fields
pub mod Going
pub mod LeftOver
pub mod Lacked
