-- By the laws of the calls on one state. Assumes nothing.
use native.Mathlib.Omega.{arith}
use Rattle.call_state.proofs.Entries.{in_fine, remove_bad, remove_past, remove_beyond, remove_done}
use Rattle.rules.proofs.Fields.{mark_parsed}
use Rattle.std.proofs.Math.Path.{ap}
use mathlib.Core.Bool.{not}
use mathlib.Core.Path.{refl}
use Rattle.call_state.proofs.remove.Goals.{then-s-place-via-then-s-place, then-s-place-via-else-s-place+then-field-ge-MOST_FIELDS}
use Rattle.call_state.proofs.remove.Goals as goal

pub returns-then-not-good : goal.returns-then-not-good
returns-then-not-good c = search remove_bad

pub returns-then-s-place : goal.returns-then-s-place
returns-then-s-place c =
    let good = ap not c.if-not-good.false in
    elim c.then-s-place.branch [
      | then-s-place-via-then-s-place w ↦ remove_past _ _ _ refl c.good.ensures good _ _ _ refl _ w.if-s-place.true c.unchanged-then-s-place.ensures
      | then-s-place-via-else-s-place+then-field-ge-MOST_FIELDS w ↦
          remove_beyond _ _ _ refl c.good.ensures good _ _ _ refl _ w.if-s-place.false w.if-field-ge-MOST_FIELDS.true c.unchanged-then-s-place.ensures
    ]

pub field_mark-requires : goal.field_mark-requires
field_mark-requires c = omega (arith, c.if-field-ge-MOST_FIELDS.false)

pub remove-requires : goal.remove-requires
remove-requires c = (in_fine _ _ _ refl c.good.ensures (ap not c.if-not-good.false), mark_parsed _ _ c.field_mark.ensures)

pub returns : goal.returns
returns c =
    remove_done _ _ _ refl c.good.ensures (ap not c.if-not-good.false) _ _ _ refl _ c.if-s-place.false (omega (arith, c.if-field-ge-MOST_FIELDS.false)) _
    c.field_mark.ensures _ c.remove.ensures c.changed.ensures
