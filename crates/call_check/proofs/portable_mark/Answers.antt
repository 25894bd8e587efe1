use mathlib.Core.Path.{refl}
use Rattle.std.specs.Prelude.{Err}
use Rattle.std.proofs.lemmas.Result.{err_from_is_err_and}
use Rattle.rules.proofs.ReportedLaws.{numbered}
use Rattle.rules.specs.Calls.{call_portable}
use Rattle.form_layout.proofs.Sizes.{check_names}
use Rattle.call_answers.proofs.Places.{check_small}
use Rattle.call_check.specs.Reader.{told, yes_code, Tells}
use Rattle.call_check.proofs.Checks.{portable_refused, portable_told}
use Rattle.call_check.proofs.portable_mark.Goals as goal

pub returns-in_err-check : goal.returns-in_err-check
returns-in_err-check c =
    let p = err_from_is_err_and c.from_residual.result c.from_residual.ensures.1 in
    let e = c.in_err-check.field-0.0 in
    let bad : Tells (told yes_code (call_portable c.args.form.now)) (Err e) =
    (portable_refused _ _ c.in_err-check.ensures (numbered e.refusal), check_small _ _ c.in_err-check.ensures) in
    rw (p.1, p.2) bad

pub is_portable-requires : goal.is_portable-requires
is_portable-requires c = check_names _ _ c.in_ok-check.ensures refl

pub returns : goal.returns
returns c = (portable_told _ _ c.in_ok-check.ensures refl _ c.is_portable.ensures _ c.yes_no.ensures, tt)
