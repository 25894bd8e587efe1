-- The answer, then the item slice. Assumes nothing.
use Rattle.replay.proofs.Told.{split_told}
use borrow.Author.Rules.{rules}
use Rattle.replay.proofs.cases.split.Goals as goal

pub returns-then-answer_same : goal.returns-then-answer_same
returns-then-answer_same c e =
    let same = c.answer_same.ensures c.if-answer_same.true in
    split_told _ _ _ (search rules) _ _ c.split-split.ensures _ _ same (c.words_same.ensures e)
