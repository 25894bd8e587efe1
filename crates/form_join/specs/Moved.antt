-- Fields, nodes and names of an accepted form whose numbers move up.
use Rattle.std.specs.Prelude.{Bool, true, ◌&&◌, List, [], map, ◌≡◌, ℕ, ◌+◌, ◌≤◌, ◌<◌, eqb}
use Rattle.std.proofs.Math.Option.{some}
use Rattle.std.proofs.Math.ListN.{get_elem?}
use Rattle.rules.specs.Form.{Node, Name, node_count, field_count, name_count, read_form}
use Rattle.rules.specs.Tree.{Tree, kind_of}
use Rattle.rules.specs.Accept.{Accepted, accepted, refused_at, length_good, check_form}
use Rattle.rules_join.specs.Join.{Moves, moves_behind, move_name, is_text_kind, move_nodes}
use Rattle.form_names.specs.Names.{name_of}
use Rattle.form_names.specs.declared.Name as names
use Rattle.form_layout.specs.Layout.{node_of}
use Rattle.form_layout.specs.declared.Node as nodes
use Rattle.form_join.specs.declared.Moves as declared

-- ---- how far

-- the struct as the rules' record
abbrev pub moves_of : declared.Moves → Moves
moves_of d = record { nodes = d.nodes; names = d.names; area = d.area }

-- what moves by nothing stays
abbrev pub nowhere : Moves
nowhere = record { nodes = 0; names = 0; area = 0 }

-- no farther than behind a form
pub record SmallMoves (d : declared.Moves) : Type 0 where
  pub nodes : d.nodes ≤ 64
  pub names : d.names ≤ 128
  pub area : d.area ≤ 4096

pub record MovesPast (b : List ℕ) (d : declared.Moves) : Type 0 where
  pub same : moves_of d ≡ moves_behind (read_form b)
  pub small : SmallMoves d

-- ---- of what

pub record FormPasses (b : List ℕ) : Type 0 where
  pub form : Accepted
  pub accepts : check_form b ≡ accepted form
  pub good : length_good b ≡ true

pub record CanMoveNode (b : List ℕ) (k : ℕ) : Type 0 where
  pub passes : FormPasses b
  pub below : k < node_count b

pub record CanMoveName (b : List ℕ) (k : ℕ) : Type 0 where
  pub passes : FormPasses b
  pub below : k < name_count b

pub record CanMoveField (b : List ℕ) (k : ℕ) : Type 0 where
  pub passes : FormPasses b
  pub below : k < field_count b

-- numbers that have room to move
pub record NodeWithin (most : ℕ) (x : Node) : Type 0 where
  pub kind : x.kind ≤ most
  pub p : x.p ≤ most
  pub q : x.q ≤ most
  pub r : x.r ≤ most

pub record NameWithin (most : ℕ) (x : Name) : Type 0 where
  pub offset : x.offset ≤ most
  pub size : x.size ≤ most

-- ---- moved

unfoldable pub moved_fields : Moves → List ℕ → List ℕ
moved_fields d b = map (λ k. d.nodes + k) (read_form b).fields

unfoldable pub moved_names : Moves → List ℕ → List Name
moved_names d b = map (move_name d) (read_form b).names

-- the kinds of values are those of the trees, which an accepted form has
unfoldable pub moved_nodes : Moves → List ℕ → List Node
moved_nodes d b = elim (check_form b) [ refused_at n k ↦ [] | accepted a ↦ move_nodes d a.trees a.form.nodes ]

-- whether node k, of a kind by number, is a fallback to a text
abbrev pub IsText : List ℕ → ℕ → ℕ → Bool → Type 0
IsText b k kind r =
    (a : Accepted) (t : Tree) → check_form b ≡ accepted a → get_elem? a.trees k ≡ some t → r ≡ (eqb kind 10 && is_text_kind (kind_of t))

pub record NodeThere (d : Moves) (b : List ℕ) (k : ℕ) (x : nodes.Node) : Type 0 where
  pub same : get_elem? (moved_nodes d b) k ≡ some (node_of x)
  pub within : NodeWithin 256 (node_of x)

pub record NameThere (d : Moves) (b : List ℕ) (k : ℕ) (x : names.Name) : Type 0 where
  pub same : get_elem? (moved_names d b) k ≡ some (name_of x)
  pub within : NameWithin 8192 (name_of x)
