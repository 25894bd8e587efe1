use Rattle.command_check.proofs.Steps.{form_inside, sum_inside}
use mathlib.Core.Path.{refl}
use mathlib.Core.Logic.{inr}
use native.Mathlib.Omega.{arith}
use Rattle.command_layout.proofs.Entries.{good_offsets}
use Rattle.command_check.proofs.Steps.{part_bad, part_offsets, part_none, part_entry, part_fits, part_inside, part_there}
use Rattle.std.proofs.Math.Path.{ap}
use mathlib.Core.Bool.{not}
use Rattle.command_check.proofs.find_form.Goals as goal

pub returns-then-not-table_good : goal.returns-then-not-table_good
returns-then-not-table_good c = part_bad _ _ c.table_good.ensures _ (ap not c.if-not-table_good.true) _ refl

pub entry_count-n-requires : goal.entry_count-n-requires
entry_count-n-requires c = omega (arith, good_offsets _ (part_offsets _ _ c.table_good.ensures c.args.k (ap not c.if-not-table_good.false)))

pub returns-then-n-k : goal.returns-then-n-k
returns-then-n-k c = part_none _ _ c.table_good.ensures _ (ap not c.if-not-table_good.false) _ c.entry_count-n.ensures c.if-n-k.true _ refl

pub area_start-requires : goal.area_start-requires
area_start-requires c = (inr refl, omega (arith, (part_inside _ _ c.table_good.ensures _ (ap not c.if-not-table_good.false) _ c.entry_count-n.ensures c.if-n-k.false).small))

pub offset_at-requires : goal.offset_at-requires
offset_at-requires c = (inr refl, (part_inside _ _ c.table_good.ensures _ (ap not c.if-not-table_good.false) _ c.entry_count-n.ensures c.if-n-k.false).first)

pub overflow_add-start : goal.overflow_add-start
overflow_add-start c = omega (arith, (part_inside _ _ c.table_good.ensures _ (ap not c.if-not-table_good.false) _ c.entry_count-n.ensures c.if-n-k.false).sum)

pub entry_at-entry-requires : goal.entry_at-entry-requires
entry_at-entry-requires c = part_entry _ _ c.table_good.ensures _ (ap not c.if-not-table_good.false) _ c.entry_count-n.ensures c.if-n-k.false

pub form_at-at-requires : goal.form_at-at-requires
form_at-at-requires c = rw c.entry_at-entry.ensures (part_fits _ _ c.table_good.ensures _ (ap not c.if-not-table_good.false) _ c.entry_count-n.ensures c.if-n-k.false).counts

pub overflow_add-result : goal.overflow_add-result
overflow_add-result c =
    omega (
      arith,
      c.well_formed,
      sum_inside c.args.table.now _ c.table_good.ensures _ (ap not c.if-not-table_good.false) _ c.entry_count-n.ensures c.if-n-k.false _ _ c.entry_at-entry.ensures c.form_at-at.ensures
          _ _ c.area_start.ensures c.offset_at.ensures,
    )

pub overflow_sub-result : goal.overflow_sub-result
overflow_sub-result c = form_inside _ _ c.table_good.ensures _ (ap not c.if-not-table_good.false) _ c.entry_count-n.ensures c.if-n-k.false _ _ c.entry_at-entry.ensures c.form_at-at.ensures

pub returns : goal.returns
returns c =
    part_there _ _ c.table_good.ensures _ (ap not c.if-not-table_good.false) _ c.entry_count-n.ensures c.if-n-k.false _ _ _ _ _ c.area_start.ensures c.offset_at.ensures
    c.entry_at-entry.ensures c.form_at-at.ensures refl
