pub mod Texts
pub mod Places
pub mod Laws
pub mod Absent
