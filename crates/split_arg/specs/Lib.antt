pub mod Parts
pub mod Clusters
pub mod Order
pub mod Items
