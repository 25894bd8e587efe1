-- Invariant: the bit is set from the first record up to k. Assumes nothing.
use Rattle.form_letters.proofs.Tables.{Marking}
use Rattle.form_letters.proofs.mark.Given as goal

abbrev pub invariant-loop-k : goal.invariant-loop-k
invariant-loop-k l = Marking l.bit l.first l.end l.initial.classes l.classes l.k
