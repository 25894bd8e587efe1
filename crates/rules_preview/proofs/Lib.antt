-- Places used between two lists of marks
pub mod UsedLaws
-- What the takes use
pub mod TakesUse
pub mod PreviewHolds
