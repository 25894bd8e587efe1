-- By whether there is one. Assumes nothing.
use Rattle.careful.proofs.Laws.{code_none, code_some, code_small}
use borrow.Author.Rules.{rules}
use Rattle.careful.proofs.letter_code.Goals as goal

pub returns-in_default : goal.returns-in_default
returns-in_default c = search code_none

pub overflow_add-result : goal.overflow_add-result
overflow_add-result c =
    let small = code_small _ _ c.in-Some.is c.requires in
    search (small, rules)

pub returns : goal.returns
returns c = search code_some
