use native.Mathlib.Omega.{arith}
use Rattle.batch_check.proofs.Sheets.{good_batch}
use Rattle.batch_run.proofs.Parts.{none_ran, all_kept, kept_on, has_sheet, record_part_lem, items_part, answers_part, list_part, next_ran, all_ran}
use Rattle.batch_run.proofs.run_sheets.Goals as goal

pub sheet_count-k-end-requires : goal.sheet_count-k-end-requires
sheet_count-k-end-requires c = omega (arith, (good_batch _ c.requires.1.good).long)

pub loop-k-init : goal.loop-k-init
loop-k-init c = (c.sheet_count-k-end.ensures, all_kept _ _ _ _, none_ran _ _ _ _ _ _)

pub sheet_at-sheet-requires : goal.sheet_at-sheet-requires
sheet_at-sheet-requires c = has_sheet _ _ _ _ _ c.requires.1 _ _ c.loop-k.invariant.0 c.loop-k-test.true

pub run_part-r-requires : goal.run_part-r-requires
run_part-r-requires c =
    let pre = c.requires in (
      pre.0,
      items_part _ _ _ _ _ pre.1 _ _ c.loop-k.invariant.0 c.loop-k-test.true _ _ _ _ c.loop-k.invariant.1,
      answers_part _ _ _ _ _ pre.1 _ _
          c.loop-k.invariant.0 c.loop-k-test.true _ _ _ _ c.loop-k.invariant.1,
      list_part _ _ _ _ _ pre.1 _ _ c.loop-k.invariant.0 c.loop-k-test.true _ _ _ _
          c.loop-k.invariant.1,
    )

pub write_record-requires : goal.write_record-requires
write_record-requires c = record_part_lem _ _ _ _ _ c.requires.1 _ _ c.loop-k.invariant.0 c.loop-k-test.true _ _ _ _ c.loop-k.invariant.1

pub loop-k-preserved : goal.loop-k-preserved
loop-k-preserved c =
    let pre = c.requires in (
      c.loop-k.invariant.0,
      kept_on _ _ _ _ _ _ _ _ _ _ _ _ c.loop-k.invariant.1 c.records-1.given c.items-1.given c.answers-1.given
          c.list-1.given,
      next_ran _ _ _ _ _ pre.1 _ _ c.loop-k.invariant.0 c.loop-k-test.true _ _ _ _ _ c.loop-k.invariant.2 _ _ _ _ _ _ c.sheet_at-sheet.ensures
          c.run_part-r.ensures c.write_record.ensures,
    )

pub returns : goal.returns
returns c = all_ran _ _ _ _ _ _ _ _ _ _ _ _ c.loop-k.invariant.0 (omega arith) c.loop-k-test.false c.loop-k.invariant.2
