-- When no copies of the marks are needed: a refusal leaves them as they were, or a side of a choice is missing.
use Rattle.std.specs.Prelude.{Bool, false, not, ◌&&◌, ◌||◌, List, ◌≡◌, ℕ, ◌<◌, length, get_or}
use Rattle.std.proofs.Math.Option.{some}
use Rattle.rules.specs.Sheet.{sheet_area}
use Rattle.rules.specs.Tree.{Tree, Flag, Argument, Positional, Optional, Many, Some, Count, Last, Choice, Fallback, Guard}
use Rattle.state_marks.specs.declared.Numbers.{Numbers}
use Rattle.take_table.specs.Bits.{bit_at}
use Rattle.eval_told.specs.declared.Ran.{Ran}
use Rattle.eval_told.specs.Told.{Evaluates}
use Rattle.eval_told.specs.Nodes.{tree_at}
use Rattle.eval_shortcut.specs.Stands.{Scalar}
use Rattle.eval_combine.specs.Made.{missing_of}
use Rattle.eval_shortcut.specs.Marks.{undoes, HasTree}
use Rattle.eval_shortcut.specs.Children.{NodeSays}

-- a node of the form, which the table can be asked for
pub record Searchable (b known : List ℕ) (node : ℕ) : Type 0 where
  pub stands : HasTree b node
  pub long : 0 < length known

-- whether a node, whose tree is given, is a required flag or an argument, and no item has its names by the table
unfoldable pub misses_by : List ℕ → ℕ → Tree → Bool
misses_by known node (Flag n names switch) = not switch && not (bit_at (get_or known 0 0) node)
misses_by known node (Argument n names b adjacent) = not (bit_at (get_or known 0 0) node)
misses_by known node (Positional n q b) = false
misses_by known node (Optional c t) = false
misses_by known node (Many c t) = false
misses_by known node (Some c t) = false
misses_by known node (Count t) = false
misses_by known node (Last t) = false
misses_by known node (Choice t u) = false
misses_by known node (Fallback v t) = false
misses_by known node (Guard l h t) = false

-- whether it undoes its refusals, or no item has its names
unfoldable pub stays_by : List ℕ → ℕ → Tree → Bool
stays_by known node t = undoes t || misses_by known node t

-- whether that holds of one side of a choice, and no item has the names of the other
unfoldable pub alone_by : List ℕ → ℕ → Tree → ℕ → Tree → Bool
alone_by known node t other u = stays_by known node t && misses_by known other u

-- ---- what follows

-- in any state over these items the node is missing: 20, and all stays as it was
pub record Misses (b known : List ℕ) (node : ℕ) : Type 0 where
  pub gone : (s words m : List ℕ) (p : Numbers) (mark : ℕ) → Scalar b known s words m p mark node
      → (t : Tree) → tree_at b node ≡ some t → Evaluates mark (sheet_area s) words t m p m (missing_of p)

-- in any state over these items a refusal of the node leaves the marks as they were
pub record Stays (b known : List ℕ) (node : ℕ) : Type 0 where
  pub kept : (s words m : List ℕ) (p : Numbers) (mark : ℕ) → Scalar b known s words m p mark node
      → (m' : List ℕ) (ran : Ran) → NodeSays b s words m p mark node m' ran → (ran.number ≡ 0 → ⊥) → m' ≡ m

-- a refusal of the node leaves the marks, and the other side of its choice is missing
pub record Alone (b known : List ℕ) (node other : ℕ) : Type 0 where
  pub stays : Stays b known node
  pub misses : Misses b known other
