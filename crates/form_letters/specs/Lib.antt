pub mod Letters
pub mod Classes
