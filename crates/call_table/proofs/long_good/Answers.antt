-- Each way out is one test of the record. Assumes nothing.
use mathlib.Core.Bool.{false≢true}
use mathlib.Core.Path.{sym, ◌∙◌}
use borrow.Author.Tests.{eqb-true, eqb-false, lt-leb}
use Rattle.call_table.proofs.Records.{long_above, long_used, long_within}
use Rattle.call_table.proofs.long_good.Goals.{then-r-le1, else-r-le1}
use Rattle.call_table.proofs.long_good.Goals as goal

pub returns-then-r-eq0 : goal.returns-then-r-eq0
returns-then-r-eq0 c = elim c.if-r-le1.branch [
  | then-r-le1 w ↦ long_within _ _ _ w.if-r-le1.true (eqb-true _ _ (sym w.value-is ∙ c.if-r-eq0.true)) _ c.part_good.ensures
  | else-r-le1 w ↦ absurd (false≢true (sym (lt-leb _ 1 w.if-r-le1.false) ∙ sym w.value-is ∙ c.if-r-eq0.true))
]

pub returns-else-r-eq0 : goal.returns-else-r-eq0
returns-else-r-eq0 c = elim c.if-r-le1.branch [
  | then-r-le1 w ↦ c.if-r-eq0.false ∙ long_used _ _ _ (eqb-false _ _ (sym w.value-is ∙ c.if-r-eq0.false))
  | else-r-le1 w ↦ c.if-r-eq0.false ∙ long_above _ _ _ w.if-r-le1.false
]
