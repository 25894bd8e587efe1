-- A law for each way out. Assumes nothing.
use mathlib.Core.Bool.{false≢true}
use mathlib.Core.Path.{sym, ◌∙◌}
use native.Mathlib.Omega.{arith}
use borrow.Author.Tests.{eq-eqb}
use Rattle.state_marks.proofs.Mark.{zero_good, used_good, low_bad, winner_good}
use Rattle.state_marks.proofs.mark_good.Goals.{then-mark-eq0, else-mark-eq0}
use Rattle.state_marks.proofs.mark_good.Goals as goal

pub returns-then-used_below : goal.returns-then-used_below
returns-then-used_below c = elim c.if-mark-eq0.branch [
  | then-mark-eq0 w ↦ c.if-used_below.true ∙ zero_good _ _ _ w.if-mark-eq0.true
  | else-mark-eq0 w ↦ c.if-used_below.true ∙ used_good _ _ _ w.if-mark-eq0.false _ w.used_below.ensures (sym w.value-is ∙ c.if-used_below.true)
]

pub returns-then-mark-ge2 : goal.returns-then-mark-ge2
returns-then-mark-ge2 c = elim c.if-mark-eq0.branch [
  | then-mark-eq0 w ↦ absurd (omega (arith, w.if-mark-eq0.true, c.if-mark-ge2.true))
  | else-mark-eq0 w ↦ winner_good _ _ _ w.if-mark-eq0.false _ w.used_below.ensures (sym w.value-is ∙ c.if-used_below.false) c.if-mark-ge2.true
]

pub returns-else-mark-ge2 : goal.returns-else-mark-ge2
returns-else-mark-ge2 c = elim c.if-mark-eq0.branch [
  | then-mark-eq0 w ↦ absurd (false≢true (sym c.if-used_below.false ∙ w.value-is ∙ eq-eqb _ _ w.if-mark-eq0.true))
  | else-mark-eq0 w ↦ low_bad _ _ _ w.if-mark-eq0.false _ w.used_below.ensures (sym w.value-is ∙ c.if-used_below.false) c.if-mark-ge2.false
]
