-- Invariant: no node before this one is a positional. Assumes nothing.
use Rattle.why_names.proofs.Laws.{NoPositional}
use Rattle.why_names.proofs.has_positional.Given as goal

abbrev pub invariant-loop-n : goal.invariant-loop-n
invariant-loop-n l = NoPositional l.form l.n
