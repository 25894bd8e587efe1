-- What trying names asks for, and what it answers, in the rules' words.
use Rattle.std.specs.Prelude.{true, List, [], ◌∷◌, ◌++◌, ◌≡◌, ℕ, ◌+◌, ◌≤◌, ◌<◌, eqb}
use Rattle.std.proofs.Math.Option.{some, none}
use Rattle.std.specs.Prelude.{if◌then◌else◌}
use Rattle.rules.specs.Base.{concat_map}
use Rattle.rules.specs.Outcome.{Outcome, ok}
use Rattle.rules.specs.Codes.{place_of}
use Rattle.rules.specs.Form.{Name, name_bytes}
use Rattle.rules.specs.Sheet.{sheet_area, sheet_fault}
use Rattle.rules.specs.Split.{Item}
use Rattle.rules.specs.State.{command_mark}
use Rattle.rules.specs.Commands.{Command, entry_good, Candidate, candidates_from, Tried as RulesTried, try_names}
use Rattle.state_marks.specs.declared.Numbers.{Numbers}
use Rattle.state_marks.specs.Lent.{state_of}
use Rattle.take_search.specs.States.{CanTake, LeftState, Items}
use Rattle.command_names.specs.declared.Tried.{Tried}

-- an entry whose names are good, with its number, a checked sheet, and a state over the items
pub record CanTry (e s words m : List ℕ) (p : Numbers) (number : ℕ) : Type 0 where
  pub good : entry_good e ≡ true
  pub made : sheet_fault s ≡ 0
  pub state : CanTake (sheet_area s) words m p command_mark
  pub low : number < 32

-- ---- what is tried of some names of an entry: those of type t, in order
unfoldable pub type_candidates : ℕ → ℕ → List ℕ → List Name → List Candidate
type_candidates t number area l =
    concat_map (λ x. if eqb x.type t then record { word = name_bytes area x; entry = number } ∷ [] else []) l

-- ---- answers
abbrev pub none_taken : ℕ → Numbers → Tried
none_taken n p = record { entry = 0; comparisons = n; numbers = p }

-- with n comparisons before it
abbrev pub tried_behind : ℕ → Tried → Tried
tried_behind n r = record { entry = r.entry; comparisons = n + r.comparisons; numbers = r.numbers }

-- n comparisons were made before: a name is taken, or the rest is tried
unfoldable pub then_tries : List Item → ℕ → List Candidate → List ℕ → Tried → Outcome RulesTried
then_tries is n rest m r = elim (place_of r.entry) [
  | none ↦ try_names is (n + r.comparisons) rest (state_of m r.numbers)
  | some k ↦ ok (record { entry = some k; comparisons = n + r.comparisons; state = state_of m r.numbers })
]

-- these candidates, whatever is tried before and after them
pub record Tries (area words : List ℕ) (cs : List Candidate) (most : ℕ) (m : List ℕ) (p : Numbers) (m' : List ℕ) (r : Tried) : Type 0 where
  pub same : (is : List Item) → Items area words p is → (n : ℕ) (rest : List Candidate)
      → try_names is n (cs ++ rest) (state_of m p) ≡ then_tries is n rest m' r
  pub few : r.comparisons ≤ most
  pub left : LeftState m p m' r.numbers

-- all names of a table
pub record TriesNames (area words : List ℕ) (cs : List Command) (m : List ℕ) (p : Numbers) (m' : List ℕ) (r : Tried) : Type 0 where
  pub same : (is : List Item) → Items area words p is
      → try_names is 0 (candidates_from 0 cs) (state_of m p)
      ≡ ok (record { entry = place_of r.entry; comparisons = r.comparisons; state = state_of m' r.numbers })
  pub left : LeftState m p m' r.numbers
