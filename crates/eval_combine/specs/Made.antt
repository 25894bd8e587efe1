-- What the functions of this crate make, by the rules.
use Rattle.std.specs.Prelude.{Bool, true, false, List, [], ◌∷◌, ◌++◌, ◌≡◌, ℕ, ◌+◌, ◌^◌, ◌≤◌, ◌<◌, eqb, length, take, drop, if◌then◌else◌, Option, Some, None, IfSome, ◌-◌}
use Rattle.std.proofs.Math.Option.{some, none}
use Rattle.rules.specs.Outcome.{ok}
use Rattle.rules.specs.Value as values
use Rattle.rules.specs.Value.{BaseValue, Value, has_kind}
use Rattle.rules.specs.Tree.{Tree, Fallback}
use Rattle.rules.specs.State.{conflicts, pick_from}
use Rattle.rules.specs.Eval.{Ran as Run, eval_optional, eval_fallback, eval_guard, eval_choice}
use Rattle.rules.specs.declared.Refused.{Refused}
use Rattle.state_marks.specs.declared.Numbers.{Numbers}
use Rattle.state_marks.specs.Lent.{state_of, Fine, pick_of}
use Rattle.take_search.specs.States.{LeftState}
use Rattle.eval_structs.specs.declared.Counting.TheVariants.{Absent}
use Rattle.eval_structs.specs.Decisions.{option_way}
use Rattle.eval_told.specs.declared.Ran.{Ran}
use Rattle.eval_told.specs.Results.{value_ran, refusal_ran}
use Rattle.eval_told.specs.Told.{told, Numbered, told_with, answered, scalar_words}
use Rattle.eval_told.specs.Nodes.{tree_at}
use Rattle.eval_combine.specs.declared.Optioned.{Optioned}
use Rattle.eval_combine.specs.declared.Chosen.{Chosen}

-- the result of a node that is missing: 20, after one try
abbrev pub missing_of : Numbers → Ran
missing_of p = refusal_ran 20 0 1 p

-- a child's result, and what it left of the state that it was given
pub record ChildGiven (before : List ℕ) (p : Numbers) (m : List ℕ) (ran : Ran) : Type 0 where
  pub fine : Fine before p
  pub left : LeftState before p m ran.numbers
  pub short : ran.len < 1000

-- ---- optional: 1 in front of the words of a value that is present, or 0
unfoldable pub optional_words : ℕ → Bool → List ℕ → List ℕ
optional_words number present w = if eqb number 0 then (if present then 1 ∷ w else 0 ∷ []) else []

pub record OptionalOf (catch : Bool) (before : List ℕ) (p : Numbers) (ran : Ran) (m m' : List ℕ) (r : Optioned) : Type 0 where
  pub same : (R : Run Value) (w : List ℕ) → Numbered R.outcome → told R ≡ some (told_with ran m w)
      → told (eval_optional catch (state_of before p) R)
      ≡ some (told_with r.ran m' (optional_words r.ran.number r.present w))
  pub left : LeftState before p m' r.ran.numbers
  pub present : r.ran.number ≡ 0 → r.present ≡ true → (r.ran.len ≡ ran.len + 1) × (r.ran.word ≡ ran.word)
  pub absent : r.ran.number ≡ 0 → r.present ≡ false → (r.ran.len ≡ 1) × (r.ran.word ≡ 0)
  pub refused : (r.ran.number ≡ 0 → ⊥) → (r.ran.len ≡ 0) × (r.present ≡ false)

-- an absent child left the marks as they were
abbrev pub Undone : Bool → List ℕ → Numbers → List ℕ → Ran → Type 0
Undone catch before p m ran =
    option_way ran.number catch p.remaining ran.numbers.remaining none ≡ Absent → m ≡ before

-- ---- fallback, whose own value is this word
pub record Returned (before : List ℕ) (p : Numbers) (m : List ℕ) (ran : Ran) : Type 0 where
  pub fine : Fine before p
  pub left : LeftState before p m ran.numbers

pub record FallbackOf (word : ℕ) (before : List ℕ) (p : Numbers) (ran : Ran) (m m' : List ℕ) (r : Ran) : Type 0 where
  pub same : (v : BaseValue) → values.word v ≡ word
      → (R : Run Value) (w : List ℕ) → Numbered R.outcome → told R ≡ some (told_with ran m w)
      → w ≡ scalar_words ran.len ran.word
      → told (eval_fallback v (state_of before p) R) ≡ some (answered r m')
  pub left : LeftState before p m' r.numbers

-- a refused child left the marks as they were
abbrev pub MarksUnchanged : List ℕ → List ℕ → Ran → Type 0
MarksUnchanged before m ran = (ran.number ≡ 0 → ⊥) → m ≡ before

-- ---- guard
pub record GuardOf (lo hi : ℕ) (ran r : Ran) : Type 0 where
  pub same : (m : List ℕ) (R : Run Value) → Numbered R.outcome → told R ≡ some (answered ran m)
      → ((v : Value) → R.outcome ≡ ok v → has_kind (values.one values.number) v ≡ true)
      → told (eval_guard lo hi R) ≡ some (answered r m)
  pub numbers : r.numbers ≡ ran.numbers

-- ---- choice: the words of the side that won
unfoldable pub choice_words : ℕ → Bool → List ℕ → List ℕ → List ℕ
choice_words number first a b = if eqb number 0 then (if first then a else b) else []

-- both results, and what each left of the state that both were given
pub record Sides (before : List ℕ) (p : Numbers) (first : List ℕ) (x : Ran) (m : List ℕ) (y : Ran) : Type 0 where
  pub fine : Fine before p
  pub one : LeftState before p first x.numbers
  pub other : LeftState before p m y.numbers
  pub few : x.tries + y.tries < 2 ^ 32

pub record ChoiceOf (before : List ℕ) (p : Numbers) (first : List ℕ) (x : Ran) (m : List ℕ) (y : Ran) (m' : List ℕ) (r : Chosen) : Type 0 where
  pub same : (A B : Run Value) (a b : List ℕ) → Numbered A.outcome → Numbered B.outcome
      → told A ≡ some (told_with x first a)
      → told B ≡ some (told_with y m b)
      → told (eval_choice (state_of before p) A B)
      ≡ some (told_with r.ran m' (choice_words r.ran.number r.first a b))
  pub left : LeftState before p m' r.ran.numbers
  pub one : r.ran.number ≡ 0 → r.first ≡ true → (r.ran.len ≡ x.len) × (r.ran.word ≡ x.word)
  pub other : r.ran.number ≡ 0 → r.first ≡ false → (r.ran.len ≡ y.len) × (r.ran.word ≡ y.word)
  pub refused : (r.ran.number ≡ 0 → ⊥) → (r.ran.len ≡ 0) × (r.ran.word ≡ 0)

-- ---- how a choice is made
abbrev pub ended_of : Ran → Refused
ended_of ran = record { number = ran.number; place = ran.place }

abbrev pub won_of : ℕ → Ran → Ran
won_of tries ran = value_ran tries ran.len ran.word ran.numbers

-- the winner's marks beside the loser's, by the place that decided, if one did
unfoldable pub won_marks : Option ℕ → ℕ → List ℕ → List ℕ → List ℕ
won_marks None n m l = m
won_marks (Some w) n m l = conflicts w (take n m) (take n l) ++ drop n m

-- marks of so many items
pub record Marked (n : ℕ) (m l : List ℕ) : Type 0 where
  pub small : n ≤ 256
  pub ours : n ≤ length m
  pub theirs : n ≤ length l

pub record Decided (place : Option ℕ) (n : ℕ) (m l : List ℕ) : Type 0 where
  pub within : IfSome place (λ w. w < n)
  pub marked : Marked n m l

pub record WinnerOf (tries n : ℕ) (first : List ℕ) (x : Ran) (m : List ℕ) (y : Ran) (m' : List ℕ) (r : Chosen) : Type 0 where
  pub place : Option ℕ
  pub within : IfSome place (λ w. w < n)
  pub picked : pick_of (record { first = r.first; place = place }) ≡ pick_from 0 (take n first) (take n m)
  pub one : r.first ≡ true → (m' ≡ won_marks place n first m) × (r.ran ≡ won_of tries x)
  pub other : r.first ≡ false → (m' ≡ won_marks place n m first) × (r.ran ≡ won_of tries y)

-- ---- a node that is a fallback
pub record FallbackAt (b : List ℕ) (n : ℕ) : Type 0 where
  pub value : BaseValue
  pub child : Tree
  pub node : tree_at b n ≡ some (Fallback value child)
