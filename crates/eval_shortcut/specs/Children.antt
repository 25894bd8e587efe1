-- What a node and its children are to be before a run, and what a node answers.
use Rattle.std.specs.Prelude.{Bool, false, not, ◌&&◌, List, ◌⊎◌, ◌≡◌, ℕ, ◌<◌, eqb}
use Rattle.std.proofs.Math.Option.{some, none}
use Rattle.std.proofs.Math.ListN.{get_elem?}
use Rattle.std.specs.Prelude.{if◌then◌else◌}
use Rattle.rules.specs.Value.{BaseValue}
use Rattle.rules.specs.Form.{read_form}
use Rattle.rules.specs.Sheet.{sheet_area}
use Rattle.rules.specs.Tree.{Tree, Flag, Argument, Positional, Optional, Many, Some, Count, Last, Choice, Fallback, Guard}
use Rattle.rules.specs.Take.{matches_arg, is_operand}
use Rattle.rules.specs.Sound.{Sound}
use Rattle.form_layout.specs.Layout.{node_of}
use Rattle.form_layout.specs.declared.Node.{Node as LaidOut}
use Rattle.state_marks.specs.declared.Numbers.{Numbers}
use Rattle.take.specs.Takes.{Skips}
use Rattle.eval_told.specs.Told.{Evaluates}
use Rattle.eval_told.specs.Nodes.{tree_at}
use Rattle.eval_shortcut.specs.Stands.{Scalar}
use Rattle.eval_told.specs.declared.Ran.{Ran}
use Rattle.eval_shortcut.specs.Marks.{keeps_marks, is_leaf}

-- ---- a node with one child: the child stands, and the node over it is sound
pub record Wraps (make : Tree → Tree) (b known s words m : List ℕ) (p : Numbers) (mark child : ℕ) : Type 0 where
  pub below : Scalar b known s words m p mark child
  pub sound : Sound (make below.stands.tree)

-- what it answers, for the tree of the child
abbrev pub Wrapped : (Tree → Tree) → ℕ → List ℕ → List ℕ → List ℕ → ℕ → List ℕ → Numbers → List ℕ → Ran → Type 0
Wrapped make mark b s words child m p m' r =
    (t : Tree) → tree_at b child ≡ some t → Evaluates mark (sheet_area s) words (make t) m p m' r

-- ---- a fallback: the node and its child
pub record Falls (b known s words m : List ℕ) (p : Numbers) (mark node child : ℕ) : Type 0 where
  pub own : BaseValue
  pub below : Scalar b known s words m p mark child
  pub stands : tree_at b node ≡ some (Fallback own below.stands.tree)

-- ---- a choice
pub record BothSides (b known s words m : List ℕ) (p : Numbers) (mark left right : ℕ) : Type 0 where
  pub first : Scalar b known s words m p mark left
  pub second : Scalar b known s words m p mark right
  pub sound : Sound (Choice first.stands.tree second.stands.tree)

-- ---- a turn of a repeat
-- where a leaf may search from, also beneath guards and optionals; of any other node nothing is said
abbrev pub Hint : Tree → List ℕ → List ℕ → List ℕ → Numbers → ℕ → Type 0
Hint (Flag n names switch) area words m p from = Skips area words (matches_arg names false) m p from
Hint (Argument n names b adjacent) area words m p from = Skips area words (matches_arg names adjacent) m p from
Hint (Positional n position b) area words m p from = Skips area words is_operand m p from
Hint (Optional c t) area words m p from = Hint t area words m p from
Hint (Many c t) area words m p from = Unit {0}
Hint (Some c t) area words m p from = Unit {0}
Hint (Count t) area words m p from = Unit {0}
Hint (Last t) area words m p from = Unit {0}
Hint (Choice t u) area words m p from = Unit {0}
Hint (Fallback v t) area words m p from = Unit {0}
Hint (Guard l h t) area words m p from = Hint t area words m p from

pub record Turns (b known s words m : List ℕ) (p : Numbers) (mark child from : ℕ) : Type 0 where
  pub below : Scalar b known s words m p mark child
  pub hint : Hint below.stands.tree (sheet_area s) words m p from

-- a node that, absent, leaves the marks as they were
abbrev pub Spares : Bool → List ℕ → ℕ → Type 0
Spares catch b n = (t : Tree) → tree_at b n ≡ some t → keeps_marks catch t ≡ false

-- a node right beneath a guard, or beneath an optional that has no marks to put back
pub record Beneath (b : List ℕ) (child leaf : ℕ) : Type 0 where
  pub own : LaidOut
  pub read : get_elem? (read_form b).nodes child ≡ some (node_of own)
  pub place : leaf ≡ own.p
  pub kind : ((node_of own).kind ≡ 11) ⊎ (((node_of own).kind ≡ 4) × Spares (eqb own.r 1) b leaf)

-- whether a turn evaluates first the node beneath a child: a leaf, where the child is a guard or an optional with no marks to put back
unfoldable pub starts_below : Tree → Bool
starts_below (Flag n names switch) = false
starts_below (Argument n names b adjacent) = false
starts_below (Positional n q b) = false
starts_below (Optional c t) = is_leaf t && not (keeps_marks c t)
starts_below (Many c t) = false
starts_below (Some c t) = false
starts_below (Count t) = false
starts_below (Last t) = false
starts_below (Choice t u) = false
starts_below (Fallback v t) = false
starts_below (Guard l h t) = is_leaf t

-- the number of the node that a turn evaluates first, where t is the tree of the child
unfoldable pub leaf_below : List ℕ → ℕ → Tree → ℕ
leaf_below b child t = elim (get_elem? (read_form b).nodes child) [ none ↦ child | some x ↦ if starts_below t then x.p else child ]

-- what follows of it: it is the child, or the node beneath it
abbrev pub Searched : List ℕ → ℕ → ℕ → Type 0
Searched b child leaf = (leaf ≡ child) ⊎ Beneath b child leaf

-- its result, of which the child makes its own
pub record LeafRan (b : List ℕ) (child leaf : ℕ) (ran : Ran) : Type 0 where
  pub tree : Tree
  pub node : tree_at b child ≡ some tree
  pub searched : Searched b child leaf
  pub short : (leaf ≡ child → ⊥) → ran.len < 1000

-- what the run of a node answers
abbrev pub NodeSays : List ℕ → List ℕ → List ℕ → List ℕ → Numbers → ℕ → ℕ → List ℕ → Ran → Type 0
NodeSays b s words m p mark n m' r = (t : Tree) → tree_at b n ≡ some t → Evaluates mark (sheet_area s) words t m p m' r

-- what the child answers, from what that node answered
abbrev pub HandsOn : List ℕ → ℕ → ℕ → Numbers → Ran → Ran → Type 0
HandsOn b child leaf p ran r =
    (known s words m m' : List ℕ) (mark : ℕ) → Scalar b known s words m p mark child
    → NodeSays b s words m p mark leaf m' ran → NodeSays b s words m p mark child m' r
