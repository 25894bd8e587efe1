-- Runs that refuse what looks otherwise than it is read
pub mod Careful
pub mod CarefulCommands
pub mod CarefulBatch
-- Values from nothing
pub mod Idle
-- What the theorems say
pub mod Looks
pub mod LooksCommands
pub mod CarefulBatchAnswered
pub mod IdleAnswered
