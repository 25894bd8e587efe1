-- What an evaluation tells: the rules' run without its trace and without what was missing.
use Rattle.std.specs.Prelude.{List, [], ◌∷◌, ◌≡◌, ℕ, eqb}
use Rattle.std.proofs.Math.Option.{Option, some, none}
use Rattle.std.specs.Prelude.{if◌then◌else◌}
use Rattle.rules.specs.Outcome.{Outcome, ok, refused, fault}
use Rattle.rules.specs.Value.{Value, words}
use Rattle.rules.specs.Codes.{place_code}
use Rattle.rules.specs.Tree.{Tree}
use Rattle.rules.specs.Split.{Item}
use Rattle.rules.specs.State.{State}
use Rattle.rules.specs.Eval.{Ran as Run, eval}
use Rattle.state_marks.specs.declared.Numbers.{Numbers}
use Rattle.state_marks.specs.Lent.{state_of}
use Rattle.take_search.specs.States.{LeftState, Items}
use Rattle.eval_told.specs.declared.Ran.{Ran}

pub record Told : Type 0 where
  pub number : ℕ
  -- plus 1, or 0 for none
  pub place : ℕ
  pub tries : ℕ
  pub words : List ℕ
  pub state : State

-- a fault tells nothing
unfoldable pub told : Run Value → Option Told
told r = elim r.outcome [
  | ok v ↦ some (record { number = 0; place = 0; tries = r.tries; words = words v; state = r.state })
  | refused e ↦ some (record
      { number = e.number; place = place_code e.place; tries = r.tries; words = []; state = r.state })
  | fault x ↦ none
]

-- a refusal has a number
abbrev pub Numbered : {A : Type 0} → Outcome A → Type 0
Numbered (ok a) = Unit {0}
Numbered (refused e) = e.number ≡ 0 → ⊥
Numbered (fault x) = Unit {0}

-- ---- what the code hands about
-- the words of a value that is no list
unfoldable pub scalar_words : ℕ → ℕ → List ℕ
scalar_words len word = if eqb len 0 then [] else (if eqb len 1 then word ∷ [] else 1 ∷ word ∷ [])

-- with the marks that were left and the words of the value
abbrev pub told_with : Ran → List ℕ → List ℕ → Told
told_with r m w = record {
  number = r.number;
  place = r.place;
  tries = r.tries;
  words = w;
  state = state_of m r.numbers;
}

abbrev pub answered : Ran → List ℕ → Told
answered r m = told_with r m (scalar_words r.len r.word)

-- the evaluation of a node whose value is no list: from marks and numbers to those that it left
pub record Evaluates (mark : ℕ) (area words : List ℕ) (t : Tree) (m : List ℕ) (p : Numbers) (m' : List ℕ) (r : Ran) : Type 0 where
  pub same : (is : List Item) → Items area words p is → told (eval mark is t (state_of m p)) ≡ some (answered r m')
  pub left : LeftState m p m' r.numbers
