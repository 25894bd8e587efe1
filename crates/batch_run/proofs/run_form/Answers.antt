use mathlib.Core.Path.{refl}
use Rattle.rules.proofs.GivenLaws.{check_accepted}
use Rattle.rules.proofs.ReportedLaws.{check_place}
use Rattle.batch_run.proofs.run_form.Goals as goal

pub run_known-requires : goal.run_known-requires
run_known-requires c = (check_accepted _ _ c.in-Ok.ensures refl, c.requires)

pub refuse_sheets-requires : goal.refuse_sheets-requires
refuse_sheets-requires c = (c.requires, check_place _ _ c.in-Err.ensures)

pub returns-in-Err : goal.returns-in-Err
returns-in-Err c = c.refuse_sheets.ensures _ c.in-Err.ensures
