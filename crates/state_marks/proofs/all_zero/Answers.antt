use lib.Dec.{eqb}
use Rattle.rules.specs.Tree.{zeros}
use Rattle.state_marks.proofs.Marks.{zero_test, gathering_next, gathering_last}
use Rattle.state_marks.proofs.all_zero.Goals as goal

pub loop-mark-preserved : goal.loop-mark-preserved
unfolding zeros
loop-mark-preserved c = gathering_next (eqb 0) _ _ _ c.loop-mark.invariant c.loop-mark-test.true _ (zero_test _)

pub returns : goal.returns
unfolding zeros
returns c = gathering_last (eqb 0) _ _ _ c.loop-mark.invariant c.loop-mark-test.false
