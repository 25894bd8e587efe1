-- Nodes of an accepted form.
use Rattle.std.specs.Prelude.{Bool, false, List, ℕ, leb}
use Rattle.std.proofs.Math.Option.{Option, some, none}
use Rattle.std.proofs.Math.ListN.{get_elem?}
use Rattle.rules.specs.Value.{Kind}
use Rattle.rules.specs.Tree.{Tree, shape_of}
use Rattle.rules.specs.Accept.{accepted, refused_at, check_form}

-- the tree of a node of an accepted form
unfoldable pub tree_at : List ℕ → ℕ → Option Tree
tree_at b n = elim (check_form b) [ accepted a ↦ get_elem? a.trees n | refused_at k i ↦ none ]

-- a value that is no list: a base value or an optional one
unfoldable pub is_scalar : Option Kind → Bool
is_scalar none = false
is_scalar (some k) = leb (shape_of k) 1
