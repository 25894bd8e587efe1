-- Numbers that move up
pub mod MovedLaws
-- Elements written one behind the other
pub mod WrittenLaws
-- Both forms, part by part
pub mod JoinedLaws
-- What is answered
pub mod Answering
