-- What the calls hand back: states, options and scopes of the rules.
use Rattle.std.specs.Prelude.{◌≡◌, List, ℕ, ◌+◌, ◌≤◌, ltb, take, drop}
use Rattle.std.proofs.Math.Option.{Option, some, none}
use Rattle.std.specs.Prelude.{if◌then◌else◌, Some, None}
use Rattle.std.specs.Prelude.{Option as Coded}
use Rattle.rules.specs.Outcome.{Outcome, ok, ◌>>=◌}
use Rattle.rules.specs.State.{State, Scope as Range, Conflict, until_present, span}
use Rattle.rules.specs.Calls.{to_raw}
use Rattle.rules.specs.declared.State.{State as Raw}
use Rattle.state_value.specs.declared.Scope.{Scope}
use Rattle.state_value.specs.declared.ConflictAt.{ConflictAt}

-- a state as it is handed over
unfoldable pub handed_over : Outcome State → Outcome Raw
handed_over o = o >>= λ u. ok (to_raw u)

abbrev pub range_of : Scope → Range
range_of r = record { start = r.start; end = r.end }

abbrev pub scope_of : Coded Scope → Option Range
scope_of (Some r) = some (range_of r)
scope_of None = none

abbrev pub conflict_of : Coded ConflictAt → Option Conflict
conflict_of (Some c) = some (record { place = c.place; winner = c.winner })
conflict_of None = none

-- a place below the end, or none
unfoldable pub place_below : ℕ → ℕ → Option ℕ
place_below end i = if ltb i end then some i else none

-- the first place from one on that is present in both of the first `count` marks, or `count`
pub record Until (a b : List ℕ) (from count r : ℕ) : Type 0 where
  pub within : r ≤ count
  pub place : place_below count r ≡ until_present from (drop from (take count a)) (drop from (take count b))

-- the first used place from one on, or `count`
pub record SpanEnd (m : List ℕ) (from count r : ℕ) : Type 0 where
  pub within : r ≤ count
  pub place : r ≡ from + span (drop from (take count m))
