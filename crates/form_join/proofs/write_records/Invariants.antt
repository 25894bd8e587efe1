-- Invariant: the first k records are written. Assumes nothing.
use Rattle.form_join.specs.Moved.{moves_of}
use Rattle.form_join.proofs.WrittenLaws.{Done}
use Rattle.form_join.proofs.write_records.Given as goal

abbrev pub invariant-loop-k : goal.invariant-loop-k
invariant-loop-k g l = Done (g.R.Record.moved (moves_of l.d) l.b) l.initial.out l.at l.out l.k
