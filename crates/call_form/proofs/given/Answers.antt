-- The form, then the items and the state. Assumes nothing.
use mathlib.Core.Path.{refl}
use Rattle.std.proofs.lemmas.Result.{err_from_is_err_and}
use Rattle.rules.proofs.GivenLaws.{check_eight}
use Rattle.call_form.proofs.Tests.{form_tests, state_tests, state_fails}
use Rattle.call_form.proofs.given.Goals as goal

pub returns-in_err-check : goal.returns-in_err-check
returns-in_err-check c =
    let p = err_from_is_err_and c.from_residual.result c.from_residual.ensures.1 in
    rw (p.1, p.2) (form_tests _ c.args.sheet.now c.args.items.now c.args.s _ c.in_err-check.ensures)

pub field_count-fields-requires : goal.field_count-fields-requires
field_count-fields-requires c = check_eight _ _ c.in_ok-check.ensures refl

pub returns-in_err-given_state : goal.returns-in_err-given_state
returns-in_err-given_state c =
    let p = err_from_is_err_and c.from_residual-in_err-given_state.result c.from_residual-in_err-given_state.ensures.1 in
    rw (p.1, p.2) (state_fails _ _ _ _ _ c.in_ok-check.ensures refl _ c.field_count-fields.ensures _ c.in_err-given_state.ensures)

pub returns : goal.returns
returns c = state_tests _ _ _ _ _ c.in_ok-check.ensures refl _ c.field_count-fields.ensures c.in_ok-given_state.ensures
