-- By how the two sides ended. Assumes nothing.
use Rattle.eval_structs.specs.Laws.{picks_two, picks_first_lem, picks_second, picks_neither}
use Rattle.eval_structs.proofs.this_or_that_picks_first.Goals as goal

pub returns-in-0-eq0 : goal.returns-in-0-eq0
returns-in-0-eq0 c = λ e f s a b. picks_two e f s a b _ _ _ _ _ _ c.in-0-eq0.is-0 c.in-0-eq0.is-1 c.two_successes.ensures

pub returns-in-0-default : goal.returns-in-0-default
returns-in-0-default c = λ e f s a b. picks_first_lem e f s a b _ _ _ _ _ _ c.in-0-default.is-0 c.in-0-default.is-1.1 c.one_success.ensures

pub returns-in_default-eq0 : goal.returns-in_default-eq0
returns-in_default-eq0 c = λ e f s a b. picks_second e f s a b _ _ _ _ _ _ c.in_default-eq0.is-0.1 c.in_default-eq0.is-1 c.one_success-in_default-eq0.ensures

pub returns-in_default : goal.returns-in_default
returns-in_default c = λ e f s a b. picks_neither e f s a b _ _ _ _ _ _ c.in_default.is-0.1 c.in_default.is-1.1 c.combine_with.ensures
