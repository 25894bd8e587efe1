-- Invariant: the marks passed are the same. Measure: the marks left. Assumes nothing.
use Prim.Native.Nat.{◌-◌}
use Rattle.state_marks.proofs.Marks.{Blocks}
use Rattle.state_marks.proofs.same_blocks.Given as goal

abbrev pub invariant-loop-i : goal.invariant-loop-i
invariant-loop-i l = Blocks l.a l.b l.count l.i

abbrev pub decreases-loop-i : goal.decreases-loop-i
decreases-loop-i l = l.count - l.i
