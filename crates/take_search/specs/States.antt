-- A state over the items of the words, before a take and after it.
use Rattle.std.specs.Prelude.{true, List, ◌≡◌, ℕ, length}
use Rattle.rules.specs.Split as rules
use Rattle.rules.specs.State.{parsed}
use Rattle.state_marks.specs.declared.Numbers.{Numbers}
use Rattle.state_marks.specs.Lent.{Fine}
use Rattle.take_search.specs.Items.{Table}

-- ---- what a take asks for: a state over the items of the words, and a parsed mark
pub record CanTake (area words m : List ℕ) (p : Numbers) (mark : ℕ) : Type 0 where
  pub items : List rules.Item
  pub table : Table area words items
  pub same : length items ≡ p.count
  pub fine : Fine m p
  pub told : parsed mark ≡ true

-- ---- the items that the words are, for a state
abbrev pub Items : List ℕ → List ℕ → Numbers → List rules.Item → Type 0
Items area words p is = Table area words is × (length is ≡ p.count)

-- ---- what is left: as many marks, and a good state over as many items
pub record LeftState (m : List ℕ) (p : Numbers) (m' : List ℕ) (q : Numbers) : Type 0 where
  pub count : q.count ≡ p.count
  pub long : length m' ≡ length m
  pub fine : Fine m' q
