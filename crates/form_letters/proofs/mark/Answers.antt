use native.Mathlib.Omega.{arith}
use Rattle.form_letters.proofs.Tables.{marking_first, marking_next, marking_last}
use Rattle.form_letters.proofs.mark.Goals as goal

pub loop-k-init : goal.loop-k-init
loop-k-init c = search marking_first

pub loop-k-preserved : goal.loop-k-preserved
loop-k-preserved c = marking_next _ _ _ _ _ _ c.loop-k.invariant c.loop-k-test.true (omega (arith, c.requires))

pub returns : goal.returns
returns c = search marking_last
