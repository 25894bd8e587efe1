-- What the evaluation of a leaf asks for, and what it answers.
use Rattle.std.specs.Prelude.{Bool, true, false, List, [], ◌≡◌, ℕ}
use Rattle.std.proofs.Math.Option.{some}
use Rattle.rules.specs.Outcome.{Outcome}
use Rattle.rules.specs.Value.{Base, Value}
use Rattle.rules.specs.Tree.{Named, Flag, Argument}
use Rattle.rules.specs.State.{State}
use Rattle.rules.specs.Take.{matches_arg}
use Rattle.rules.specs.Eval.{Ran as Run}
use Rattle.rules.specs.Sound.{is_named}
use Rattle.state_marks.specs.declared.Numbers.{Numbers}
use Rattle.state_marks.specs.Lent.{state_of}
use Rattle.take_table.specs.Known.{TableTells}
use Rattle.take_search.specs.States.{CanTake}
use Rattle.eval_told.specs.declared.Ran.{Ran}
use Rattle.eval_told.specs.Results.{value_ran, refusal_ran}
use Rattle.eval_told.specs.Told.{told, answered, Evaluates}

-- a leaf with one or more names, which the table of `known` tells by the node, and a state over the items of the words
pub record Leaf (known area words m : List ℕ) (p : Numbers) (node mark : ℕ) (names : Named) (adjacent : Bool) : Type 0 where
  pub state : CanTake area words m p mark
  pub says : TableTells known p.end node area words (matches_arg names adjacent)
  pub named : is_named names ≡ true

-- ---- how a leaf ends, as numbers: always after one try
abbrev pub leaf_value : ℕ → Numbers → Ran
leaf_value w p = value_ran 1 1 w p

-- the place is itself plus 1, or 0 for none
abbrev pub leaf_refusal : ℕ → ℕ → Numbers → Ran
leaf_refusal n place p = refusal_ran n place 1 p

-- a flag that is required, or an argument, that no item has: its evaluation is refusal 20 and leaves all as it was
pub record Missing (known : List ℕ) (node : ℕ) : Type 0 where
  pub flag : (area words m : List ℕ) (p : Numbers) (mark : ℕ) (names : Named) → Leaf known area words m p node mark names false
      → (n : ℕ) → Evaluates mark area words (Flag n names false) m p m (leaf_refusal 20 0 p)
  pub argument : (area words m : List ℕ) (p : Numbers) (mark : ℕ) (names : Named) (adjacent : Bool) → Leaf known area words m p node mark names adjacent
      → (n : ℕ) (b : Base) → Evaluates mark area words (Argument n names b adjacent) m p m (leaf_refusal 20 0 p)

unfoldable pub leaf_run : Outcome Value → State → Run Value
leaf_run o s = record { outcome = o; state = s; tries = 1; trace = [] }

-- an outcome in the state that a take left, and the numbers that tell it
pub record LeafTells (o : State → Outcome Value) (p : Numbers) (r : Ran) : Type 0 where
  pub same : (m : List ℕ) → told (leaf_run (o (state_of m p)) (state_of m p)) ≡ some (answered r m)
  pub kept : r.numbers ≡ p
