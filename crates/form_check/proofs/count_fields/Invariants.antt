-- Invariant: the fields below i are nodes, and are counted. Assumes nothing.
use Rattle.rules.specs.Form.{read_form}
use Rattle.form_check.proofs.Counting.{FieldsFrom}
use Rattle.form_check.proofs.count_fields.Given as goal

abbrev pub invariant-loop-i : goal.invariant-loop-i
invariant-loop-i l = FieldsFrom l.n (read_form l.b).fields l.initial.counts l.counts l.i
