-- What the crates above cite.
pub mod NodeLaw
pub mod Visits
pub mod Repeats
pub mod ListLaws
