-- The careful run
pub mod LooksLaws
pub mod LooksLines
pub mod LooksHold
-- The careful run of a table
pub mod LooksCommandLaws
pub mod LooksCommandsHold
-- The careful run of a batch
pub mod PaddedLaws
pub mod BatchByLaws
pub mod CarefulBatchHolds
-- Values from nothing
pub mod IdleNothing
pub mod IdleOnce
pub mod IdleUses
pub mod IdleCounts
pub mod IdleHolds
