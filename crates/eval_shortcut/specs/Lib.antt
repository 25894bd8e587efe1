pub mod Stands
pub mod Marks
pub mod Children
pub mod OneSide
