-- Invariant: what is left decides. Assumes nothing.
use Rattle.take_table.proofs.Lookups.{Gathering, is_long}
use Rattle.take_table.proofs.long_owners.Given as goal

abbrev pub invariant-loop-k : goal.invariant-loop-k
invariant-loop-k l = Gathering l.form (is_long l.form l.name) l.set l.k
