-- A node of an accepted form, and where its evaluation stands.
use Rattle.std.specs.Prelude.{true, List, ◌≡◌, ℕ, ◌≤◌, length}
use Rattle.std.proofs.Math.Option.{some}
use Rattle.rules.specs.Sheet.{sheet_area, sheet_fault}
use Rattle.rules.specs.Tree.{Tree, kind_of}
use Rattle.rules.specs.Sound.{leaves}
use Rattle.state_marks.specs.declared.Numbers.{Numbers}
use Rattle.take_search.specs.States.{CanTake}
use Rattle.take_table.specs.Known.{Known}
use Rattle.eval_told.specs.Nodes.{tree_at, is_scalar}

-- a node, a state over the items of the words, and which nodes each item matches
pub record Standing (b known s words m : List ℕ) (p : Numbers) (mark n : ℕ) : Type 0 where
  pub tree : Tree
  pub node : tree_at b n ≡ some tree
  pub light : leaves tree ≤ 64
  pub made : sheet_fault s ≡ 0
  pub state : CanTake (sheet_area s) words m p mark
  pub knows : Known b (sheet_area s) words (length state.items) known

-- whose value is no list
pub record Scalar (b known s words m : List ℕ) (p : Numbers) (mark n : ℕ) : Type 0 where
  pub stands : Standing b known s words m p mark n
  pub scalar : is_scalar (kind_of stands.tree) ≡ true
