-- What the callers of the check use, and the steps of its functions.
pub mod Checked
pub mod Steps
