use mathlib.Core.Path.{refl}
use native.Mathlib.Omega.{arith}
use Rattle.form_layout.proofs.Sizes.{sized}
use Rattle.form_kinds.proofs.Steps.{names_none, names_outside, typed_first, typed_next, typed_bad, typed_last}
use Rattle.form_kinds.proofs.names_good.Goals.{then-size-eq0-via-then-size-eq0, then-size-eq0-via-else-size-eq0+then-count-size, then-size-eq0-via-else-size-eq0+else-count-size+then-count-size-2}
use Rattle.form_kinds.proofs.names_good.Goals as goal

pub name_count-count-requires : goal.name_count-count-requires
name_count-count-requires c = (sized _ c.requires).counts.long

pub returns-then-size-eq0 : goal.returns-then-size-eq0
returns-then-size-eq0 c =
    elim c.then-size-eq0.branch [
      | then-size-eq0-via-then-size-eq0 w ↦ names_none _ _ w.if-size-eq0.true
      | then-size-eq0-via-else-size-eq0+then-count-size w ↦ names_outside _ _ _ c.name_count-count.ensures (omega arith)
      | then-size-eq0-via-else-size-eq0+else-count-size+then-count-size-2 w ↦ names_outside _ _ _ c.name_count-count.ensures (omega arith)
    ]

pub loop-i-init : goal.loop-i-init
loop-i-init c = search typed_first

pub returns-then-name_at-gt1 : goal.returns-then-name_at-gt1
returns-then-name_at-gt1 c = typed_bad _ _ _ _ c.loop-i.invariant c.loop-i-test.true _ c.name_at.ensures _ refl refl c.if-name_at-gt1.true

pub loop-i-preserved : goal.loop-i-preserved
loop-i-preserved c = search typed_next

pub returns : goal.returns
returns c = search typed_last
