-- The form, the sheet, then the names of the node. Assumes nothing.
use mathlib.Core.Logic.{inl}
use mathlib.Core.Path.{refl, sym}
use Rattle.std.proofs.lemmas.Result.{err_from_is_err_and}
use Rattle.rules.proofs.GivenLaws.{check_accepted, check_eight}
use Rattle.call_table.proofs.Laws.{start_small, start_within}
use Rattle.call_find.proofs.Ends.{start_form, start_checked, start_sheet, start_ready}
use Rattle.call_find.proofs.started.Goals as goal

pub returns-in_err-check : goal.returns-in_err-check
returns-in_err-check c =
    let p = err_from_is_err_and c.from_residual.result c.from_residual.ensures.1 in
    rw (p.1, p.2) (start_form _ c.args.sheet.now _ c.in_err-check.ensures)

pub returns-in_err-check-2 : goal.returns-in_err-check-2
returns-in_err-check-2 c =
    let p = err_from_is_err_and c.from_residual-in_err-check-2.result c.from_residual-in_err-check-2.ensures.1 in
    rw (p.1, p.2) (start_sheet _ _ _ c.in_ok-check.ensures refl _ c.in_err-check-2.ensures)

pub field_count-fields-requires : goal.field_count-fields-requires
field_count-fields-requires c = check_eight _ _ c.in_ok-check.ensures refl

pub key_at-key-requires : goal.key_at-key-requires
key_at-key-requires c = check_accepted _ _ c.in_ok-check.ensures refl

pub codes_of-codes-requires : goal.codes_of-codes-requires
codes_of-codes-requires c = start_checked _ c.args.sheet.now _ c.in_ok-check.ensures refl

pub count-requires : goal.count-requires
count-requires c = sym c.in_ok-check-2.ensures

pub area_start-requires : goal.area_start-requires
area_start-requires c = (inl refl, start_small _ (sym c.in_ok-check-2.ensures) _ c.count.ensures)

pub overflow_sub-area : goal.overflow_sub-area
overflow_sub-area c = start_within _ (sym c.in_ok-check-2.ensures) _ c.count.ensures _ c.area_start.ensures

pub returns : goal.returns
returns c =
    start_ready _ _ _ c.in_ok-check.ensures refl (sym c.in_ok-check-2.ensures) _ c.field_count-fields.ensures _ _ c.key_at-key.ensures _ c.codes_of-codes.ensures _ c.count.ensures
    _ c.area_start.ensures
