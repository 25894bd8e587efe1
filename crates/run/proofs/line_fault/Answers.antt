use mathlib.Core.Logic.{⊎_elim}
use Rattle.std.proofs.lemmas.Result.{err_from_is_err_and}
use Rattle.rules.proofs.ReportedLaws.{numbered}
use Rattle.run.proofs.Runs.{sheet_refused, items_short, answers_short, list_short, line_good}
use Rattle.run.proofs.line_fault.Goals as goal
use mathlib.Core.Path.{refl}

pub returns-in_err-check : goal.returns-in_err-check
returns-in_err-check c =
    let p = err_from_is_err_and c.from_residual.result c.from_residual.ensures.1 in
    rw (p.1, p.2) (sheet_refused _ _ _ _ _ c.in_err-check.ensures (numbered c.in_err-check.field-0.0))

pub returns-then-items-lt-ITEM_WORDS : goal.returns-then-items-lt-ITEM_WORDS
returns-then-items-lt-ITEM_WORDS c =
    ⊎_elim
    (λ e. items_short _ _ _ _ _ c.in_ok-check.ensures refl e)
    (λ e. answers_short _ _ _ _ _ c.in_ok-check.ensures refl e.0 e.1)
    c.then-items-lt-ITEM_WORDS.either

pub returns-then-list-lt-MISSING_WORDS : goal.returns-then-list-lt-MISSING_WORDS
returns-then-list-lt-MISSING_WORDS c = list_short _ _ _ _ _ c.in_ok-check.ensures refl c.if-items-lt-ITEM_WORDS.false c.if-answers-lt-ANSWER_WORDS.false c.if-list-lt-MISSING_WORDS.true

pub returns : goal.returns
returns c = line_good _ _ _ _ _ c.in_ok-check.ensures refl c.if-items-lt-ITEM_WORDS.false c.if-answers-lt-ANSWER_WORDS.false c.if-list-lt-MISSING_WORDS.false
