use lib.Dec.{eqb}
use Rattle.rules.specs.Tree.{zeros}
use Rattle.state_marks.proofs.Marks.{zero_test, gathering_next, gathering_last}
use Rattle.call_table.proofs.all_zero.Goals as goal

pub loop-word-preserved : goal.loop-word-preserved
unfolding zeros
loop-word-preserved c = gathering_next (eqb 0) _ _ _ c.loop-word.invariant c.loop-word-test.true _ (zero_test _)

pub returns : goal.returns
unfolding zeros
returns c = gathering_last (eqb 0) _ _ _ c.loop-word.invariant c.loop-word-test.false
