-- Invariant: unless others were found, the marks passed are the same. Assumes nothing.
use Rattle.state_marks.proofs.Marks.{Blocked}
use Rattle.state_marks.proofs.same_block.Given as goal

abbrev pub invariant-loop-k : goal.invariant-loop-k
invariant-loop-k l = Blocked l.a l.b l.from l.same l.k
