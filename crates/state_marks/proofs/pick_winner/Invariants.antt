-- Invariant: up to i the two agree. Assumes nothing.
-- cN is the place N before c.
use Rattle.state_marks.proofs.Marks.{Picking}
use Rattle.state_marks.proofs.pick_winner.Given as goal

abbrev pub invariant-loop-i : goal.invariant-loop-i
invariant-loop-i l = Picking l.a l.b l.count l.i
