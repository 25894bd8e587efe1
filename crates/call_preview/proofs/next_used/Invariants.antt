-- Invariant: no place from the first to this one was used. Assumes nothing.
use Rattle.call_preview.proofs.Laws.{Looking}
use Rattle.call_preview.proofs.next_used.Given as goal

abbrev pub invariant-loop-i : goal.invariant-loop-i
invariant-loop-i l = Looking l.before l.after l.from l.i
