-- Invariant: the table has the codes of the nodes from k on. Assumes nothing.
use Rattle.rules.specs.Form.{read_form}
use Rattle.form_check.proofs.Climbing.{Filled}
use Rattle.form_check.proofs.fill_all.Given as goal

abbrev pub invariant-loop-k : goal.invariant-loop-k
invariant-loop-k l = Filled (read_form l.b) l.k l.table
