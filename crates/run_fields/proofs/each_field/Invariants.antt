-- Invariant: what is told of the fields so far, behind which the others are to be told. Assumes nothing.
use Rattle.run_fields.proofs.Going.{Going}
use Rattle.run_fields.proofs.each_field.Given as goal

abbrev pub invariant-loop-k : goal.invariant-loop-k
invariant-loop-k l = Going l.line.form.now l.line.known.now l.line.sheet.now l.line.items.now l.initial.marks l.initial.s l.first l.initial.out l.n l.marks l.s l.tries l.at l.k l.out
