use mathlib.Core.Path.{refl, sym}
use Rattle.std.specs.Prelude.{Err}
use Rattle.std.proofs.lemmas.Result.{err_from_is_err_and}
use Rattle.rules.specs.declared.Refusal.TheVariants.{ShortSlice}
use Rattle.rules.proofs.ReportedLaws.{numbered}
use Rattle.call_answers.proofs.Places.{check_small}
use Rattle.call_check.specs.Reader.{Admits}
use Rattle.call_check.proofs.Splits.{form_refused, refused_with, sheet_refused, slice_refused, splittable}
use Rattle.call_check.proofs.admit.Goals as goal

pub returns-in_err-check : goal.returns-in_err-check
returns-in_err-check c =
    let p = err_from_is_err_and c.from_residual.result c.from_residual.ensures.1 in
    let e = c.in_err-check.field-0.0 in
    let bad : Admits {A = Unit {0}} c.args.form.now c.args.sheet.now c.args.items.now (Err e) =
    (form_refused _ _ _ _ c.in_err-check.ensures (numbered e.refusal), check_small _ _ c.in_err-check.ensures) in
    rw (p.1, p.2) bad

pub returns-in_err-check-2 : goal.returns-in_err-check-2
returns-in_err-check-2 c =
    let p = err_from_is_err_and c.from_residual-in_err-check-2.result c.from_residual-in_err-check-2.ensures.1 in
    let e = c.in_err-check-2.field-0.0 in
    let split = sheet_refused _ _ _ _ c.in_ok-check.ensures refl _ c.in_err-check-2.ensures (numbered e) in
    rw (p.1, p.2) (refused_with _ _ _ e split)

pub returns-then-items-lt-ITEM_WORDS : goal.returns-then-items-lt-ITEM_WORDS
returns-then-items-lt-ITEM_WORDS c =
    let split = slice_refused _ _ _ _ c.in_ok-check.ensures refl (sym c.in_ok-check-2.ensures) c.if-items-lt-ITEM_WORDS.true in
    rw c.from.ensures (refused_with _ _ _ ShortSlice split)

pub returns : goal.returns
returns c = splittable _ _ 0 _ c.in_ok-check.ensures refl (sym c.in_ok-check-2.ensures) _ c.if-items-lt-ITEM_WORDS.false
