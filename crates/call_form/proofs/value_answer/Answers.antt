-- By the kind of the value. Assumes nothing.
use mathlib.Core.Path.{refl, ap, ◌∙◌}
use native.Mathlib.Omega.{arith}
use Rattle.std.specs.Prelude.{Ok}
use Rattle.call_form.proofs.Takes.{small_taken, small_refused, answer_missing, answer_taken, answer_refused}
use Rattle.call_form.proofs.value_answer.Goals as goal

pub narrow-requires : goal.narrow-requires
narrow-requires c = small_taken _ _ c.requires (c.in-Ok-Some.is ∙ ap Ok (rw c.in-Ok-Some.is at c.in-Ok-Some.field-0-is))

pub at-requires : goal.at-requires
at-requires c = omega (arith, small_refused _ _ c.requires c.in-Err.is)

pub unchanged_at-requires : goal.unchanged_at-requires
unchanged_at-requires c = rw c.at.ensures (omega (arith, small_refused _ _ c.requires c.in-Err.is))

pub returns-in-Ok-None : goal.returns-in-Ok-None
returns-in-Ok-None c = answer_missing _ _ _ _ (c.in-Ok-None.is ∙ ap Ok (rw c.in-Ok-None.is at c.in-Ok-None.field-0-is)) c.changed.ensures

pub returns-in-Ok-Some : goal.returns-in-Ok-Some
returns-in-Ok-Some c = answer_taken _ _ _ _ _ (c.in-Ok-Some.is ∙ ap Ok (rw c.in-Ok-Some.is at c.in-Ok-Some.field-0-is)) _ c.narrow.ensures c.changed-in-Ok-Some.ensures

pub returns-in-Err : goal.returns-in-Err
returns-in-Err c = answer_refused _ _ _ _ _ c.in-Err.is (c.unchanged_at.ensures ∙ rw c.at.ensures refl)
