-- Fields, nodes and names whose numbers move up
pub mod Moved
-- Parts of the joined form, written one behind the other
pub mod Written
-- What is answered
pub mod Answers
-- Records of one kind, each by its bytes
pub mod Records
-- That they are
pub mod Sizes
