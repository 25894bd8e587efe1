-- Worked moves
pub mod Examples
-- What stays of a moved tree
pub mod TreeLaws
-- The evaluation of a moved tree, and the run of both
pub mod MovedLaws
pub mod RunLaws
-- Lists behind lists
pub mod JoinLists
-- Names, trees, uses and letters of two joined forms
pub mod NameJoin
pub mod TreeJoin
pub mod TreesJoin
pub mod UseJoin
pub mod LetterJoin
-- Limits, and the length of a form's bytes
pub mod LimitLaws
-- What passes is accepted from its bytes; so is the join
pub mod PassedLaws
pub mod JoinAccepts
-- Every joining is answered
pub mod JoinHolds
