use mathlib.Core.Path.{sym, ◌∙◌}
use Rattle.state_marks.proofs.Marks.{testing_fails, testing_next, testing_last}
use Rattle.state_marks.proofs.marks_good.Goals as goal

pub returns-then-not-mark_good : goal.returns-then-not-mark_good
returns-then-not-mark_good c = testing_fails _ _ _ c.loop-mark-test.true c.loop-mark.invariant (sym c.mark_good.ensures ∙ c.if-not-mark_good.true)

pub loop-mark-preserved : goal.loop-mark-preserved
loop-mark-preserved c = testing_next _ _ _ c.loop-mark-test.true c.loop-mark.invariant (sym c.mark_good.ensures ∙ c.if-not-mark_good.false)

pub returns : goal.returns
returns c = testing_last _ _ _ c.loop-mark-test.false c.loop-mark.invariant
