-- Invariant: the first i marks are those of `conflicts`, the others as they were. It begins where blocks of the same marks end.
-- Assumes nothing.
use Rattle.state_marks.proofs.Marks.{Saving}
use Rattle.state_marks.proofs.save_conflicts.Given as goal

abbrev pub invariant-loop-i : goal.invariant-loop-i
invariant-loop-i l = Saving l.initial.marks l.loser l.w l.count l.marks l.i
