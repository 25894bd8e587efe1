-- Invariant: before i no place is present and passes. Assumes nothing.
use Rattle.state_marks.specs.Lent.{NoneWhere}
use Rattle.state_marks.proofs.first_where.Given as goal

abbrev pub invariant-loop-i : goal.invariant-loop-i
invariant-loop-i g l = NoneWhere l.marks (goal.F-post g l.test) l.from l.i
