-- The fields are run; refused with 20, the list is written. Assumes nothing.
use native.Mathlib.Omega.{arith}
use Rattle.run.proofs.Runs.{unlisted_runs, list_good, list_inside, list_number, list_begins, list_runs}
use Rattle.run.proofs.run_known.Goals as goal

pub field_at-node-requires : goal.field_at-node-requires
field_at-node-requires c =
    let pre = c.requires in (
      list_good _ _ _ _ _ _ _ _ pre.0 _ _ _ c.run_fields-all.ensures c.if-all-eq-MISSING.true,
      list_inside _ _ _ _ _ _ _ _ pre.0 _ _ _ c.run_fields-all.ensures c.if-all-eq-MISSING.true,
    )

pub overflow_add-first : goal.overflow_add-first
overflow_add-first c =
    let fits = list_number _ _ _ _ _ _ _ _ c.requires.0 _ _ _ c.run_fields-all.ensures c.if-all-eq-MISSING.true in
    record { fits = omega (arith, fits) }

pub field_mark-mark-requires : goal.field_mark-mark-requires
field_mark-mark-requires c = list_number _ _ _ _ _ _ _ _ c.requires.0 _ _ _ c.run_fields-all.ensures c.if-all-eq-MISSING.true

pub list_missing-requires : goal.list_missing-requires
list_missing-requires c =
    list_begins _ _ _ _ _ _ _ _ c.requires.0 _ _ _ c.run_fields-all.ensures c.if-all-eq-MISSING.true _ c.field_at-node.ensures _
    c.field_mark-mark.ensures _ c.requires.1

pub returns-then-all-eq-MISSING : goal.returns-then-all-eq-MISSING
returns-then-all-eq-MISSING c =
    list_runs _ _ _ _ _ _ _ _ c.requires.0 _ _ _ c.run_fields-all.ensures c.if-all-eq-MISSING.true _ c.field_at-node.ensures _
    c.field_mark-mark.ensures _ _ _ c.list_missing.ensures

pub returns-else-all-eq-MISSING : goal.returns-else-all-eq-MISSING
returns-else-all-eq-MISSING c = unlisted_runs _ _ _ _ _ _ _ _ c.requires.0 _ _ _ c.run_fields-all.ensures _ c.if-all-eq-MISSING.false
