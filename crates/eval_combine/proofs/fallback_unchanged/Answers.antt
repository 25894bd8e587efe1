-- By what `parse_fallback` decides. Assumes nothing.
use Rattle.eval_combine.proofs.Fallbacks.{fallback_same}
use Rattle.eval_combine.specs.Unchanged.{fallback_made, fallback_by}
use Rattle.eval_combine.proofs.fallback_unchanged.Goals as goal

pub returns-in-Child-clause-by_index : goal.returns-in-Child-clause-by_index
unfolding fallback_made fallback_by
returns-in-Child-clause-by_index c = fallback_same _ _ _ _ (rw (← c.parse_fallback.ensures, c.in-Child.is))

pub returns-in-Own-clause-by_index : goal.returns-in-Own-clause-by_index
unfolding fallback_made fallback_by
returns-in-Own-clause-by_index c = fallback_same _ _ _ _ (rw (← c.parse_fallback.ensures, c.in-Own.is) c.value.ensures)

pub returns-in-Refusal-clause-by_index : goal.returns-in-Refusal-clause-by_index
unfolding fallback_made fallback_by
returns-in-Refusal-clause-by_index c = fallback_same _ _ _ _ (rw (← c.parse_fallback.ensures, c.in-Refusal.is) c.refusal.ensures)
