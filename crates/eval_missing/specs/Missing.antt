-- The list of what is missing: what writing it asks for, and what it leaves.
use Rattle.std.specs.Prelude.{List, ◌≡◌, ℕ, ◌+◌, ◌*◌, ◌≤◌, length}
use Rattle.std.proofs.Math.Option.{some}
use Rattle.std.proofs.lemmas.List.Edits.{sets}
use Rattle.rules.specs.Outcome.{list_words}
use Rattle.rules.specs.Sheet.{sheet_area}
use Rattle.rules.specs.Tree.{Tree}
use Rattle.rules.specs.Split.{Item}
use Rattle.rules.specs.Missing.{lacking}
use Rattle.rules.specs.Sound.{leaves}
use Rattle.state_marks.specs.declared.Numbers.{Numbers}
use Rattle.state_marks.specs.Lent.{state_of}
use Rattle.take_search.specs.States.{Items}
use Rattle.eval_told.specs.Nodes.{tree_at}
use Rattle.eval_shortcut.specs.Stands.{Standing, Scalar}
use Rattle.eval_list.specs.Lists.{MarkedField}

-- room for three words of each leaf of a tree, from `at` on
abbrev pub Space : Tree → ℕ → List ℕ → Type 0
Space t at l = at + 3 * leaves t ≤ length l

-- a node whose value is no list, and room for its entries
pub record Listable (b known s words m : List ℕ) (p : Numbers) (f : MarkedField) (l : List ℕ) : Type 0 where
  pub below : Scalar b known s words m p f.mark f.node
  pub space : Space below.stands.tree f.at l

-- any node, and a list of 192 words
pub record Listing (b known s words m : List ℕ) (p : Numbers) (mark node : ℕ) (l : List ℕ) : Type 0 where
  pub stands : Standing b known s words m p mark node
  pub room : 192 ≤ length l

-- the entries of a tree in a state, written from `at` on to before `stop`
pub record Lists (mark : ℕ) (area words : List ℕ) (t : Tree) (m : List ℕ) (p : Numbers) (at : ℕ) (l l' : List ℕ) (stop : ℕ) : Type 0 where
  pub entries : List ℕ
  pub same : (is : List Item) → Items area words p is → list_words (lacking mark is t (state_of m p)) ≡ entries
  pub put : l' ≡ sets l at entries
  pub count : stop ≡ at + length entries
  pub few : length entries ≤ 3 * leaves t

-- of a node, for its tree
abbrev pub ListsNode : List ℕ → List ℕ → List ℕ → MarkedField → List ℕ → Numbers → List ℕ → List ℕ → ℕ → Type 0
ListsNode b s words f m p l l' stop =
    (t : Tree) → tree_at b f.node ≡ some t → Lists f.mark (sheet_area s) words t m p f.at l l' stop
