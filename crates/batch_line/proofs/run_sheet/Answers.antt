use Rattle.batch_line.proofs.Sheet.{line_refused, reported}
use Rattle.batch_line.proofs.Sheet.{known_input}
use mathlib.Core.Path.{refl}
use native.Mathlib.Omega.{arith}
use Rattle.batch_line.proofs.run_sheet.Goals as goal

pub refuse_input-requires : goal.refuse_input-requires
refuse_input-requires c = rw c.from.ensures (omega arith)

pub returns-in-Err : goal.returns-in-Err
returns-in-Err c =
    let run = line_refused _ _ _ _ c.requires _ _ _ _ c.in-Err.fault c.in-Err.ensures _ c.from.ensures _ c.refuse_input.ensures in
    search reported

pub run_checked-requires : goal.run_checked-requires
run_checked-requires c = (c.requires, known_input _ _ _ _ c.requires _ _ _ _ (c.in-Ok.ensures.good refl), c.unmarked-marks.ensures)

pub returns-in-Ok : goal.returns-in-Ok
returns-in-Ok c = search reported
