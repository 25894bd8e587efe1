-- Two forms made one, and the run of both
pub mod Join
-- What the theorems say
pub mod JoinAnswered
