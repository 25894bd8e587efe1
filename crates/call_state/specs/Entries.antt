-- What the entry points test.
use Rattle.rules.specs.Outcome.{Outcome, ◌>>=◌}
use Rattle.rules.specs.State.{State}
use Rattle.rules.specs.Calls.{state_in, most_fields}
use Rattle.rules.specs.declared.State.{State as Raw}

-- two states, both over the first's items
unfoldable pub both_in : Raw → Raw → Outcome State
both_in x y = state_in most_fields x.count x >>= λ _. state_in most_fields x.count y
