-- Worked steps
pub mod Examples
-- The set: its tests and its facts
pub mod SetLaws
-- Counting in lists of digits
pub mod CountLaws
-- Arguments by their lengths and the places of their bytes
pub mod ShortLaws
-- How many come before, and the step
pub mod RankLaws
pub mod NextLaws
-- The order, the call, and all its steps
pub mod NextHolds
pub mod WalkHolds
