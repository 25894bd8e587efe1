pub mod Told
pub mod Nodes
pub mod Lists
pub mod Results
