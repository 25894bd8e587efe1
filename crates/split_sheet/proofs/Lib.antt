-- The ways out of the check
pub mod Faults
-- What is known of a checked sheet
pub mod Arguments
