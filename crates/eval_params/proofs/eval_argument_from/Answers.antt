-- By what was taken. Assumes nothing.
use mathlib.Core.Path.{ap, ◌∙◌}
use native.Mathlib.Omega.{arith}
use Rattle.std.specs.Prelude.{Ok}
use Rattle.eval_params.proofs.Places.{value_place_lem, key_place}
use Rattle.eval_params.proofs.Laws.{argument_missing, argument_taken, argument_refused}
use Rattle.eval_params.proofs.eval_argument_from.Goals as goal

pub take_arg_known-taken-requires : goal.take_arg_known-taken-requires
take_arg_known-taken-requires c = ((_, c.requires.2.2.state), c.requires.1, c.requires.2.3.inside)

pub parsed-requires : goal.parsed-requires
parsed-requires c =
    let h = c.requires in (
      h.0,
      value_place_lem _ _ _ _ _ h.2.2.state _ h.2.0 h.2.1 _ (c.take_arg_known-taken.ensures _ h.2.0 h.2.1 h.2.2.state h.2.2.says h.2.3) _
          (c.in-Ok-Some.is ∙ ap Ok (rw c.in-Ok-Some.is at c.in-Ok-Some.field-0-is)),
    )

pub overflow_cast-e : goal.overflow_cast-e
overflow_cast-e c =
    let h = c.requires in
    let small = key_place _ _ _ _ _ h.2.2.state _ h.2.0 h.2.1 _ (c.take_arg_known-taken.ensures _ h.2.0 h.2.1 h.2.2.state h.2.2.says h.2.3) _ c.in-Err.is in
    record { fits = omega (arith, small) }

pub overflow_add-e : goal.overflow_add-e
overflow_add-e c =
    let h = c.requires in
    let small = key_place _ _ _ _ _ h.2.2.state _ h.2.0 h.2.1 _ (c.take_arg_known-taken.ensures _ h.2.0 h.2.1 h.2.2.state h.2.2.says h.2.3) _ c.in-Err.is in
    record { fits = omega (arith, small) }

pub returns-in-Ok-None : goal.returns-in-Ok-None
returns-in-Ok-None c names adjacent leaf skips =
    argument_missing _ _ _ _ _ _ _ leaf.named _ _ _ (c.take_arg_known-taken.ensures _ names adjacent leaf.state leaf.says skips) _
    (c.in-Ok-None.is ∙ ap Ok (rw c.in-Ok-None.is at c.in-Ok-None.field-0-is)) c.refused.ensures

pub returns-in-Ok-Some : goal.returns-in-Ok-Some
returns-in-Ok-Some c names adjacent leaf skips =
    argument_taken _ _ _ _ _ _ _ leaf.named _ _ _ (c.take_arg_known-taken.ensures _ names adjacent leaf.state leaf.says skips) _ _
    (c.in-Ok-Some.is ∙ ap Ok (rw c.in-Ok-Some.is at c.in-Ok-Some.field-0-is)) c.parsed.ensures

pub returns-in-Err : goal.returns-in-Err
returns-in-Err c names adjacent leaf skips =
    argument_refused _ _ _ _ _ _ _ leaf.named _ _ _ (c.take_arg_known-taken.ensures _ names adjacent leaf.state leaf.says skips) _ _
    c.in-Err.is c.refused-in-Err.ensures
