-- Invariant: the set is added from the first record up to k. Assumes nothing.
use Rattle.form_letters.proofs.Tables.{Marking}
use Rattle.take_table.proofs.mark.Given as goal

abbrev pub invariant-loop-k : goal.invariant-loop-k
invariant-loop-k l = Marking l.set l.first l.end l.initial.owners l.owners l.k
