-- Invariant: the count so far and the present ones from i on make up the whole. Assumes nothing.
use Rattle.state_marks.proofs.Marks.{Counting}
use Rattle.state_marks.proofs.count_present.Given as goal

abbrev pub invariant-loop-i : goal.invariant-loop-i
invariant-loop-i l = Counting l.marks l.from l.to l.count l.i
