-- Invariant: the names from i on are as good as all. Assumes nothing.
use Rattle.form_kinds.proofs.Steps.{Typed}
use Rattle.form_kinds.proofs.names_good.Given as goal

abbrev pub invariant-loop-i : goal.invariant-loop-i
invariant-loop-i l = Typed l.b l.from l.size l.i
