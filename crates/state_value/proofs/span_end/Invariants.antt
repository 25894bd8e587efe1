-- Invariant: up to i all are present. Assumes nothing.
use Rattle.state_value.proofs.Loops.{Spanning}
use Rattle.state_value.proofs.span_end.Given as goal

abbrev pub invariant-loop-i : goal.invariant-loop-i
invariant-loop-i l = Spanning l.marks l.from l.count l.i
