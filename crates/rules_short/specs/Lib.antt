-- Short sheets, their order, and the step
pub mod Short
-- What the theorems say
pub mod ShortAnswered
