use native.Mathlib.Omega.{arith}
use Rattle.state_marks.proofs.Marks.{blocked_first, blocked_next}
use Rattle.state_marks.proofs.same_block.Goals as goal

pub loop-k-init : goal.loop-k-init
loop-k-init c = search blocked_first

pub loop-k-preserved : goal.loop-k-preserved
loop-k-preserved c = blocked_next _ _ _ _ _ c.loop-k.invariant

pub returns : goal.returns
returns c e k l h = c.loop-k.invariant.alike e k l (omega (arith, c.loop-k-test.false))
