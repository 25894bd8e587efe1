-- A law for each way out. Assumes nothing.
use mathlib.Core.Path.{refl, sym, ap, ◌∙◌}
use native.Mathlib.Omega.{arith}
use Rattle.std.specs.Prelude.{Option}
use Rattle.rules.specs.Outcome.{ok}
use Rattle.state_value.specs.Options.{conflict_of}
use Rattle.state_value.specs.declared.ConflictAt.{ConflictAt}
use Rattle.state_value.proofs.Given.{first_ready, place_below_lem, conflict_nowhere, conflict_absent, conflict_there}
use Rattle.state_value.proofs.conflict.Goals as goal

pub first_present-i-requires : goal.first_present-i-requires
first_present-i-requires c = first_ready _ c.requires _ _ refl refl

pub returns-then-i-end : goal.returns-then-i-end
returns-then-i-end c = conflict_nowhere _ c.requires _ _ _ refl refl c.first_present-i.ensures c.if-i-end.true

pub offset_bounds-s-i : goal.offset_bounds-s-i
offset_bounds-s-i c = omega (arith, place_below_lem _ c.requires _ _ _ refl refl c.first_present-i.ensures c.if-i-end.false)

pub bounds-s-i : goal.bounds-s-i
bounds-s-i c = omega (arith, place_below_lem _ c.requires _ _ _ refl refl c.first_present-i.ensures c.if-i-end.false)

pub returns-in_err-winner : goal.returns-in_err-winner
returns-in_err-winner c items l =
    conflict_absent _ c.requires _ _ _ refl refl c.first_present-i.ensures c.if-i-end.false _ c.winner_of.ensures.winner items l c.in_err-winner.was
    ∙ ap (λ (o : Option ConflictAt). ok (conflict_of o)) (sym c.from_residual.ensures)

pub overflow_cast-result : goal.overflow_cast-result
overflow_cast-result c = omega (arith, place_below_lem _ c.requires _ _ _ refl refl c.first_present-i.ensures c.if-i-end.false)

pub returns : goal.returns
returns c items l =
    conflict_there _ c.requires _ _ _ refl refl c.first_present-i.ensures c.if-i-end.false _ c.winner_of.ensures.winner items l _ c.in_ok-winner.was
