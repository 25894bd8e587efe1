use mathlib.Core.Path.{refl, sym, ap, ◌∙◌}
use Rattle.rules.proofs.CodeLaws.{code_place}
use Rattle.rules.proofs.ReportedLaws.{numbered}
use Rattle.command_check.specs.declared.TableRefused.{TableRefused}
use Rattle.command_check.proofs.Checked.{check_good, check_bad}
use Rattle.command_run.proofs.Reports.{input_refused, line_bad}
use Rattle.command_run.proofs.run_input.Goals as goal

pub told-entry-requires : goal.told-entry-requires
told-entry-requires c = (c.in-Err.ensures.place, c.in-Err.ensures.entry)

pub refuse_input-none-requires : goal.refuse_input-none-requires
refuse_input-none-requires c = c.in-Err.ensures.place

pub returns-in-Err : goal.returns-in-Err
returns-in-Err c =
    input_refused _ _ _ _ _ _ _ _ _ _ _ _ _ _ _ (check_bad _ _ c.in-Err.ensures.told (numbered c.in-Err.e.fault.refusal) _ _ _ _) c.refuse_input-none.ensures
    c.requires (code_place _ ∙ ap (λ (r : TableRefused). r.entry) (sym c.told-entry.ensures)) c.told.ensures

pub returns-in-Err-line_fault : goal.returns-in-Err-line_fault
returns-in-Err-line_fault c =
    input_refused _ _ _ _ _ _ _ _ _ _ _ _ _ _ _
    (line_bad _ _ _ _ _ (check_good _ _ c.in_default.ensures.told refl) _ (c.in-Err-line_fault.ensures.bad (numbered c.in-Err-line_fault.e)))
    (rw c.from.ensures at c.refuse_input-none-in-Err-line_fault.ensures) c.requires refl c.told-in-Err-line_fault.ensures

pub run_checked-requires : goal.run_checked-requires
run_checked-requires c = (record { forms = check_good _ _ c.in_default.ensures.told refl; line = c.in_default-line_fault.ensures.good refl }, c.requires)
