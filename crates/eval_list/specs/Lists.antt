-- What the run of a node whose value is a list asks for, and what it answers.
use Rattle.std.specs.Prelude.{false, List, ◌≡◌, ℕ, ◌≤◌, length}
use Rattle.std.proofs.Math.Option.{some}
use Rattle.std.proofs.lemmas.List.Edits.{sets}
use Rattle.rules.specs.Sheet.{sheet_area}
use Rattle.rules.specs.Tree.{Tree, Choice, kind_of}
use Rattle.rules.specs.Split.{Item}
use Rattle.rules.specs.Eval.{eval}
use Rattle.rules.specs.Sound.{Sound}
use Rattle.state_marks.specs.declared.Numbers.{Numbers}
use Rattle.state_marks.specs.Lent.{state_of}
use Rattle.take_search.specs.States.{LeftState, Items}
use Rattle.eval_told.specs.declared.Ran.{Ran}
use Rattle.eval_told.specs.Told.{told, told_with}
use Rattle.eval_told.specs.Nodes.{tree_at, is_scalar}
use Rattle.eval_shortcut.specs.Stands.{Standing, Scalar}
use Rattle.eval_node.specs.Cycle.{Room}
use Rattle.eval_list.specs.declared.Field.{Field}
use Rattle.eval_list.specs.declared.Child.{Child}
use Rattle.eval_list.specs.declared.Either.{Either}

-- ---- a field, and the mark of what it uses
pub record MarkedField : Type 0 where
  pub node : ℕ
  pub at : ℕ
  pub mark : ℕ

abbrev pub with_mark : Field → ℕ → MarkedField
with_mark f m = record { node = f.node; at = f.at; mark = m }

abbrev pub child_with_mark : Child → ℕ → MarkedField
child_with_mark c m = record { node = c.node; at = c.at; mark = m }

-- of the first side
abbrev pub side_with_mark : Either → ℕ → MarkedField
side_with_mark s m = record { node = s.left; at = s.at; mark = m }

-- ---- a node whose value is a list or an optional list, and room for its words
pub record Listed (b known s words m : List ℕ) (p : Numbers) (f : MarkedField) (o : List ℕ) : Type 0 where
  pub stands : Standing b known s words m p f.mark f.node
  pub long : is_scalar (kind_of stands.tree) ≡ false
  pub space : Room o f.at

-- what its run tells, with the words of its value, which are written from `at` on. A refusal has no words
pub record Writes (mark : ℕ) (area words : List ℕ) (t : Tree) (m : List ℕ) (p : Numbers) (m' o : List ℕ) (at : ℕ) (o' : List ℕ) (r : Ran) : Type 0 where
  pub value : List ℕ
  pub same : (is : List Item) → Items area words p is → told (eval mark is t (state_of m p)) ≡ some (told_with r m' value)
  pub len : r.len ≡ length value
  pub put : o' ≡ sets o at value
  pub fits : length value ≤ 515
  pub left : LeftState m p m' r.numbers

-- of a field, for the tree of its node
abbrev pub WritesField : List ℕ → List ℕ → List ℕ → MarkedField → List ℕ → Numbers → List ℕ → List ℕ → List ℕ → Ran → Type 0
WritesField b s words f m p m' o o' r =
    (t : Tree) → tree_at b f.node ≡ some t → Writes f.mark (sheet_area s) words t m p m' o f.at o' r

-- ---- a node with one child: no list in a repeat, a list in an optional
pub record OverScalar (make : Tree → Tree) (b known s words m : List ℕ) (p : Numbers) (child : MarkedField) (o : List ℕ) : Type 0 where
  pub below : Scalar b known s words m p child.mark child.node
  pub sound : Sound (make below.stands.tree)
  pub space : Room o child.at

pub record OverList (make : Tree → Tree) (b known s words m : List ℕ) (p : Numbers) (child : MarkedField) (o : List ℕ) : Type 0 where
  pub below : Listed b known s words m p child o
  pub sound : Sound (make below.stands.tree)

-- what it answers, for the tree of the child
abbrev pub WritesOver : (Tree → Tree) → List ℕ → List ℕ → List ℕ → MarkedField → List ℕ → Numbers → List ℕ → List ℕ → List ℕ → Ran → Type 0
WritesOver make b s words child m p m' o o' r =
    (t : Tree) → tree_at b child.node ≡ some t → Writes child.mark (sheet_area s) words (make t) m p m' o child.at o' r

-- ---- a choice between lists
-- another node in a field's place
abbrev pub in_place : MarkedField → ℕ → MarkedField
in_place f n = record { node = n; at = f.at; mark = f.mark }

pub record EitherList (b known s words m : List ℕ) (p : Numbers) (left : MarkedField) (right : ℕ) (o : List ℕ) : Type 0 where
  pub first : Listed b known s words m p left o
  pub second : Listed b known s words m p (in_place left right) o
  pub sound : Sound (Choice first.stands.tree second.stands.tree)
