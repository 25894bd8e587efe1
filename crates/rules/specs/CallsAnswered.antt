-- What holds of every single call on any input, forged states and items included: it is answered, under which numbers it is
-- refused, and what it then leaves.
use Rattle.std.specs.Prelude.{true, List, [], ◌∷◌, ◌⊎◌, ◌≡◌, ℕ, length, replicate}
use Rattle.std.proofs.Math.Option.{some, none}
use Rattle.rules.specs.Base.{contains}
use Rattle.rules.specs.Outcome.{Outcome, ok, refused, Refusal}
use Rattle.rules.specs.State.{State}
use Rattle.rules.specs.Calls.{Called, Splitting, Evaluated, to_raw}
use Rattle.rules.specs.Calls.{call_remove, call_pick_winner, call_save_conflicts, call_set_scope, call_adjacent_scope, call_available_from}
use Rattle.rules.specs.Calls.{call_get, call_conflict, call_take_positional, call_only_once}
use Rattle.rules.specs.Calls.{call_matches, call_take_flag, call_take_arg, call_take_cmd, call_kind, call_portable, call_split, call_text, call_eval}
use Rattle.rules.specs.declared.State.{State as Raw}
use Rattle.rules.specs.Answered.{AtFault, ItemsLeft}

abbrev pub OneOf : List ℕ → ℕ → Type 0
OneOf l n = contains l n ≡ true

-- A call with no state: an answer, or refused with one of these numbers; never a fault
pub data Answers {A : Type 0} (l : List ℕ) : Outcome A → Type 0 where
  answers : (a : A) → Answers l (ok a)
  refuses : (e : Refusal) → OneOf l e.number → Answers l (refused e)

-- A call on a state: 0 and an answer, or one of these numbers, no answer, and the state as it was given
pub record Hands {A : Type 0} (l : List ℕ) (x : Raw) (o : Outcome (Called A)) : Type 0 where
  pub called : Called A
  pub answered : o ≡ ok called
  pub number :
      ((called.number ≡ 0) × ((a : A) × (called.answer ≡ some a)))
      ⊎ (OneOf l called.number × (called.answer ≡ none) × (called.state ≡ x))

-- `eval` of a node: 0; or 20 to 26, and answers 0; then the list is 0 but for 20. Or a number before these, and nothing changes
pub record EvalAnswers (x : Raw) (answers list : List ℕ) (o : Outcome Evaluated) : Type 0 where
  pub evaluated : Evaluated
  pub answered : o ≡ ok evaluated
  pub number :
      ((evaluated.number ≡ 0) × (evaluated.list ≡ replicate (length list) 0))
      ⊎ (OneOf (20 ∷ 21 ∷ 22 ∷ 23 ∷ 24 ∷ 25 ∷ 26 ∷ []) evaluated.number
      × (evaluated.words ≡ [])
      × (evaluated.answers ≡ replicate (length answers) 0)
      × ((evaluated.number ≡ 20 → ⊥) → evaluated.list ≡ replicate (length list) 0))
      ⊎ (OneOf (1 ∷ 2 ∷ 3 ∷ 4 ∷ 6 ∷ 5 ∷ 7 ∷ 14 ∷ 30 ∷ 29 ∷ 28 ∷ []) evaluated.number
      × (evaluated.tries ≡ 0)
      × (evaluated.words ≡ [])
      × (evaluated.state ≡ x)
      × (evaluated.answers ≡ answers)
      × (evaluated.list ≡ list))

-- `split`: 0; or 1 to 9 for what is at fault with no answer slice and no list, and what a run leaves
pub record SplitsLine (form sheet : List ℕ) (n : ℕ) (o : Outcome Splitting) : Type 0 where
  pub splitting : Splitting
  pub answered : o ≡ ok splitting
  pub state : State
  pub handed : splitting.state ≡ to_raw state
  pub number :
      (splitting.number ≡ 0)
      ⊎ (AtFault form sheet n 8240 192 splitting.number splitting.place
      × ItemsLeft form sheet n splitting.number splitting.items state)

-- Each call with its numbers, in the order in which they are tested
pub record CallsAnswered : Type 0 where
  -- a state
  pub remove : (x : Raw) (i k : ℕ) → Hands (29 ∷ 28 ∷ []) x (call_remove x i k)
  pub pick_winner : (x y : Raw) → Hands (29 ∷ []) x (call_pick_winner x y)
  pub save_conflicts : (x y : Raw) (w : ℕ) → Hands (29 ∷ 28 ∷ []) x (call_save_conflicts x y w)
  pub set_scope : (x : Raw) (a b : ℕ) → Hands (29 ∷ 28 ∷ []) x (call_set_scope x a b)
  pub adjacent_scope : (x y : Raw) → Hands (29 ∷ []) x (call_adjacent_scope x y)
  pub available_from : (x : Raw) (a : ℕ) → Hands (29 ∷ 28 ∷ []) x (call_available_from x a)
  -- sheet, items and a state
  pub get : (sheet slice : List ℕ) (x : Raw) (i : ℕ) → Hands (6 ∷ 5 ∷ 7 ∷ 30 ∷ 29 ∷ 28 ∷ []) x (call_get sheet slice x i)
  pub conflict : (sheet slice : List ℕ) (x : Raw) → Hands (6 ∷ 5 ∷ 7 ∷ 30 ∷ 29 ∷ []) x (call_conflict sheet slice x)
  pub take_positional :
      (sheet slice : List ℕ) (x : Raw) (k : ℕ)
      → Hands (6 ∷ 5 ∷ 7 ∷ 30 ∷ 29 ∷ 28 ∷ 20 ∷ []) x (call_take_positional sheet slice x k)
  pub only_once : (sheet slice : List ℕ) (i : ℕ) → Answers (6 ∷ 5 ∷ 7 ∷ 30 ∷ 28 ∷ []) (call_only_once sheet slice i)
  -- form, sheet, items and a state
  pub matches_arg :
      (form sheet slice : List ℕ) (x : Raw) (k i : ℕ)
      → Hands (1 ∷ 2 ∷ 3 ∷ 4 ∷ 6 ∷ 5 ∷ 7 ∷ 30 ∷ 29 ∷ 28 ∷ []) x (call_matches form sheet slice x k i)
  pub take_flag :
      (form sheet slice : List ℕ) (x : Raw) (k j : ℕ)
      → Hands (1 ∷ 2 ∷ 3 ∷ 4 ∷ 6 ∷ 5 ∷ 7 ∷ 30 ∷ 29 ∷ 28 ∷ []) x (call_take_flag form sheet slice x k j)
  pub take_arg :
      (form sheet slice : List ℕ) (x : Raw) (k j : ℕ)
      → Hands (1 ∷ 2 ∷ 3 ∷ 4 ∷ 6 ∷ 5 ∷ 7 ∷ 30 ∷ 29 ∷ 28 ∷ 22 ∷ []) x (call_take_arg form sheet slice x k j)
  pub take_cmd :
      (form sheet slice : List ℕ) (x : Raw) (k : ℕ)
      → Hands (1 ∷ 2 ∷ 3 ∷ 4 ∷ 6 ∷ 5 ∷ 7 ∷ 30 ∷ 29 ∷ 28 ∷ []) x (call_take_cmd form sheet slice x k)
  pub eval :
      (form sheet slice answers list : List ℕ) (x : Raw) (k : ℕ)
      → EvalAnswers x answers list (call_eval form sheet slice answers list x k)
  -- a form, with no state
  pub kind : (form : List ℕ) (k : ℕ) → Answers (1 ∷ 2 ∷ 3 ∷ 4 ∷ 28 ∷ []) (call_kind form k)
  pub portable : (form : List ℕ) → Answers (1 ∷ 2 ∷ 3 ∷ 4 ∷ []) (call_portable form)
  pub text :
      (form sheet slice : List ℕ) (w : ℕ)
      → Answers (1 ∷ 2 ∷ 3 ∷ 4 ∷ 6 ∷ 5 ∷ 7 ∷ 30 ∷ 28 ∷ []) (call_text form sheet slice w)
  pub split : (form sheet : List ℕ) (n : ℕ) → SplitsLine form sheet n (call_split form sheet n)
