-- Invariant: no field before k is the one. Assumes nothing.
use Rattle.form_fields.proofs.Owners.{FieldFrom}
use Rattle.form_fields.proofs.field_of.Given as goal

abbrev pub invariant-loop-k : goal.invariant-loop-k
invariant-loop-k l = FieldFrom l.b l.top l.k
