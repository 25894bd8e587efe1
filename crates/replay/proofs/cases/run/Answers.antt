-- The answer, then the answer slice. Assumes nothing.
use Rattle.replay.proofs.Told.{run_told}
use borrow.Author.Rules.{rules}
use Rattle.replay.proofs.cases.run.Goals as goal

pub returns-then-answer_same : goal.returns-then-answer_same
returns-then-answer_same c e =
    let same = c.answer_same.ensures c.if-answer_same.true in
    run_told _ _ _ (search rules) _ (search rules) _ (search rules) _ _ _ _ c.run-ran.ensures _ _ same (c.words_same.ensures e)
