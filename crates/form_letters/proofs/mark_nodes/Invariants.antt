-- Invariant: the table has the classes by the first i nodes. Assumes nothing.
use Rattle.form_letters.proofs.Tables.{Noting}
use Rattle.form_letters.proofs.mark_nodes.Given as goal

abbrev pub invariant-loop-i : goal.invariant-loop-i
invariant-loop-i l = Noting l.form l.count l.classes l.i
