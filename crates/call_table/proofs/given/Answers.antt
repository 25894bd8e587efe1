-- Each test in its turn. Assumes nothing.
use mathlib.Core.Path.{◌≡◌, sym, ◌∙◌}
use mathlib.Core.Option.{none}
use Rattle.std.proofs.lemmas.Result.{err_from_is_err_and}
use Rattle.rules.specs.Outcome.{refused, refuse}
use Rattle.rules.specs.Reported.{number_of}
use Rattle.rules.proofs.ReportedLaws.{numbered}
use Rattle.call_table.specs.Given.{items_given}
use Rattle.call_table.proofs.Laws.{given_fault, given_short, given_checked}
use Rattle.call_table.proofs.given.Goals as goal

pub returns-in_err-check : goal.returns-in_err-check
returns-in_err-check c =
    let p = err_from_is_err_and c.from_residual.result c.from_residual.ensures.1 in
    let e = c.in_err-check.field-0.0 in
    let bad : items_given c.args.sheet.now c.args.items.now ≡ refused (refuse (number_of e) none) =
    rw c.in_err-check.ensures (given_fault _ _ (λ z. numbered e (c.in_err-check.ensures ∙ z))) in
    rw (p.1, p.2) bad

pub returns-then-items-lt-ITEM_WORDS : goal.returns-then-items-lt-ITEM_WORDS
returns-then-items-lt-ITEM_WORDS c = given_short _ _ (sym c.in_ok-check.ensures) c.if-items-lt-ITEM_WORDS.true

pub returns : goal.returns
returns c = rw c.ok_or.ensures.value (given_checked _ _ (sym c.in_ok-check.ensures) c.if-items-lt-ITEM_WORDS.false _ c.check-2.ensures)
