-- The tests, then the step. Assumes nothing.
use mathlib.Core.Path.{◌∙◌, ap}
use Rattle.rules.proofs.ReportedLaws.{numbered}
use Rattle.short_sheets.specs.Answers.{answered}
use Rattle.short_sheets.proofs.Next.{refused_reported, can_step, step_reported}
use Rattle.short_sheets.proofs.next_sheet.Goals as goal

pub returns-in-Err : goal.returns-in-Err
returns-in-Err c =
    refused_reported _ _ _ _ c.in-Err.ensures (numbered c.in-Err.e) _ _ (c.answer.ensures ∙ ap (λ n. answered n 0 0) c.number.ensures) c.clear_from.ensures

pub step-requires : goal.step-requires
step-requires c = can_step _ _ _ c.in_default.ensures

pub returns : goal.returns
returns c = step_reported _ _ _ _ _ c.in_default.ensures c.step.ensures
