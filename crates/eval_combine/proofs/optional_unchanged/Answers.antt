-- By what `parse_option` decides. Assumes nothing.
use mathlib.Core.Logic.{inl, inr}
use Rattle.eval_combine.proofs.Optionals.{optional_same}
use Rattle.eval_combine.specs.Unchanged.{optional_made, optional_by}
use Rattle.eval_combine.proofs.optional_unchanged.Goals as goal

pub returns-in-Absent-clause-by_index : goal.returns-in-Absent-clause-by_index
unfolding optional_made optional_by
returns-in-Absent-clause-by_index c = optional_same _ _ _ _ (rw (← c.parse_option.ensures, c.in-Absent.is, c.value.ensures))

pub returns-in-PassedOn-clause-by_index : goal.returns-in-PassedOn-clause-by_index
unfolding optional_made optional_by
returns-in-PassedOn-clause-by_index c = optional_same _ _ _ _ (rw (← c.parse_option.ensures, c.in-PassedOn.is, c.refusal.ensures))

pub returns-in-Counted-clause-by_index : goal.returns-in-Counted-clause-by_index
unfolding optional_made optional_by
returns-in-Counted-clause-by_index c =
    let made = c.value-in-Counted.ensures in
    optional_same _ _ _ _ (elim c.in-Counted.is [ inl e ↦ rw (← c.parse_option.ensures, e, made) | inr e ↦ rw (← c.parse_option.ensures, e, made) ])
