use mathlib.Core.Path.{refl}
use Rattle.std.proofs.lemmas.Result.{err_from_is_err_and}
use Rattle.rules.proofs.ReportedLaws.{numbered, check_place}
use Rattle.run.proofs.Runs.{form_refused, line_tested}
use Rattle.run.proofs.input_fault.Goals as goal

pub returns-in_err-check : goal.returns-in_err-check
returns-in_err-check c =
    let p = err_from_is_err_and c.from_residual.result c.from_residual.ensures.1 in
    let e = c.in_err-check.field-0.0 in
    rw (p.1, p.2) (form_refused _ _ _ _ _ _ c.in_err-check.ensures (numbered e.refusal) (check_place _ e c.in_err-check.ensures))

pub returns-in_err-line_fault : goal.returns-in_err-line_fault
returns-in_err-line_fault c =
    let p = err_from_is_err_and c.from_residual-in_err-line_fault.result c.from_residual-in_err-line_fault.ensures.1 in
    rw (p.1, p.2) (line_tested _ _ _ _ _ _ c.in_ok-check.ensures refl _ c.in_err-line_fault.ensures _ refl)

pub returns : goal.returns
returns c = line_tested _ _ _ _ _ _ c.in_ok-check.ensures refl _ c.in_ok-line_fault.ensures _ refl
