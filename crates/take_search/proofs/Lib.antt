pub mod NameLaws
pub mod Items
pub mod Search
pub mod Tables
pub mod States
