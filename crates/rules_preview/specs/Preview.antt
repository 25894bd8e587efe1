-- Request seven: what a take would do. The answer of the take, the places that it would use, and the state that would result.
use Rattle.std.specs.Prelude.{Bool, ◌&&◌, List, [], ◌∷◌, ℕ, suc}
use Rattle.std.proofs.Math.Option.{Option}
use Rattle.std.specs.Prelude.{if◌then◌else◌}
use Rattle.rules.specs.Outcome.{Outcome, ok, ◌>>=◌}
use Rattle.rules.specs.State.{parsed, present}
use Rattle.rules.specs.Take.{Taken, Operand}
use Rattle.rules.specs.Calls.{Called, call_take_flag, call_take_arg, call_take_positional, call_take_cmd}
use Rattle.rules.specs.declared.State.{State as Raw}

-- The places present before and used after, rising, by their marks. A place in conflict is present
unfoldable pub used_from : ℕ → List ℕ → List ℕ → List ℕ
used_from i [] after = []
used_from i (m ∷ ms) [] = []
used_from i (m ∷ ms) (u ∷ us) = if present m && parsed u then i ∷ used_from (suc i) ms us else used_from (suc i) ms us

unfoldable pub used_between : (before after : List ℕ) → List ℕ
used_between before after = used_from 0 before after

-- What the take hands back, and the places between the state given and the one that would result
pub record Previewed (A : Type 0) : Type 0 where
  pub taken : Called A
  pub places : List ℕ

unfoldable pub previewed : {A : Type 0} → Raw → Called A → Previewed A
previewed x c = record { taken = c; places = used_between x.marks c.state.marks }

-- The take done on a copy of the state
unfoldable pub preview_of : {A : Type 0} → Raw → Outcome (Called A) → Outcome (Previewed A)
preview_of x take = take >>= λ c. ok (previewed x c)

-- form, sheet, item slice, state, node and field; a positional has no form and no node, a command a name record and no field
unfoldable pub preview_flag : List ℕ → List ℕ → List ℕ → Raw → (node field : ℕ) → Outcome (Previewed Bool)
preview_flag form sheet slice x k j = preview_of x (call_take_flag form sheet slice x k j)

unfoldable pub preview_arg : List ℕ → List ℕ → List ℕ → Raw → (node field : ℕ) → Outcome (Previewed (Option Taken))
preview_arg form sheet slice x k j = preview_of x (call_take_arg form sheet slice x k j)

unfoldable pub preview_positional : List ℕ → List ℕ → Raw → (field : ℕ) → Outcome (Previewed Operand)
preview_positional sheet slice x j = preview_of x (call_take_positional sheet slice x j)

unfoldable pub preview_cmd : List ℕ → List ℕ → List ℕ → Raw → (name : ℕ) → Outcome (Previewed Bool)
preview_cmd form sheet slice x k = preview_of x (call_take_cmd form sheet slice x k)
