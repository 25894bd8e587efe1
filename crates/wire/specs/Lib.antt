pub mod Wire
pub mod Laws
