-- Refused, or what `calls` finds. Assumes nothing.
use mathlib.Core.Path.{◌∙◌, ap, sym}
use mathlib.Core.Option.{some}
use Rattle.std.specs.Prelude.{Option}
use Rattle.state_value.specs.Options.{conflict_of}
use Rattle.state_value.specs.declared.ConflictAt.{ConflictAt}
use Rattle.call_answers.specs.Answers.{answer_with, conflict_code}
use Rattle.call_item.proofs.Laws.{conflict_refused, conflict_ready, conflict_told}
use Rattle.call_item.proofs.conflict.Goals as goal

pub returns-in-Err : goal.returns-in-Err
returns-in-Err c = conflict_refused _ _ _ _ c.in-Err.ensures ∙ ap some (sym c.refused.ensures)

pub conflict-requires : goal.conflict-requires
conflict-requires c = conflict_ready _ _ _ c.in_default.ensures

pub returns-in-Some : goal.returns-in-Some
returns-in-Some c =
    conflict_told _ _ _ c.in_default.ensures c.conflict.result c.conflict.ensures
    ∙ ap (λ (o : Option ConflictAt). some (answer_with 0 0 (conflict_code (conflict_of o)))) c.in-Some.is ∙ ap some (sym c.answered.ensures)

pub returns-in-None : goal.returns-in-None
returns-in-None c =
    conflict_told _ _ _ c.in_default.ensures c.conflict.result c.conflict.ensures
    ∙ ap (λ (o : Option ConflictAt). some (answer_with 0 0 (conflict_code (conflict_of o)))) c.in-None.is ∙ ap some (sym c.answered-in-None.ensures)
