-- What the run of a repeat asks for, and what it answers.
use Rattle.std.specs.Prelude.{true, false, ◌≡◌, ℕ, ◌+◌, ◌≤◌, length, get_or}
use mathlib.Core.List.{List, flatten}
use Rattle.std.proofs.Math.Option.{some}
use Rattle.std.proofs.lemmas.List.Edits.{sets}
use Rattle.std.specs.Prelude.{if◌then◌else◌}
use Rattle.rules.specs.Tree.{Tree, has_repeat}
use Rattle.rules.specs.Split.{Item}
use Rattle.rules.specs.Eval.{repeated, eval}
use Rattle.state_marks.specs.declared.Numbers.{Numbers}
use Rattle.state_marks.specs.Lent.{state_of}
use Rattle.take_search.specs.States.{LeftState, Items}
use Rattle.eval_told.specs.Told.{scalar_words}
use Rattle.eval_shortcut.specs.Stands.{Scalar}
use Rattle.eval_told.specs.Lists.{ToldList, told_list, last_words}
use Rattle.eval_node.specs.declared.Repeat.{Repeat}
use Rattle.eval_words.specs.declared.Repeated.{Repeated}

-- ---- repeats
-- the repeat of `count` and `last`: no refusal is caught, and nothing is written
abbrev pub counting : ℕ → Repeat
counting n = record { child = n; catch = false; stops = true; writes = false; at = 0 }

abbrev pub listed : Repeated → List ℕ → List (List ℕ) → ToldList
listed r m vs = record {
  number = r.number;
  place = r.place;
  tries = r.tries;
  values = vs;
  state = state_of m r.numbers;
}

-- room for a list from `at` on, where all is 0
pub record Room (o : List ℕ) (at : ℕ) : Type 0 where
  pub room : at + 515 ≤ length o
  pub zeros : (k : ℕ) → at ≤ k → get_or o k 0 ≡ 0

-- a child without a repeat, and room if the values are written
pub record Repeating (b known s words m : List ℕ) (p : Numbers) (mark : ℕ) (how : Repeat) (o : List ℕ) : Type 0 where
  pub below : Scalar b known s words m p mark how.child
  pub flat : has_repeat below.stands.tree ≡ false
  pub space : how.writes ≡ true → Room o how.at

-- what the run of a repeat leaves. Its values are written from the word behind `at` on, where it is told to
pub record Repeats (mark : ℕ) (area words : List ℕ) (t : Tree) (how : Repeat) (m : List ℕ) (p : Numbers) (m' o o' : List ℕ) (r : Repeated) : Type 0 where
  pub values : List (List ℕ)
  pub same : (is : List Item) → Items area words p is
      → told_list (repeated how.catch how.stops (eval mark is t) (state_of m p)) ≡ some (listed r m' values)
  pub count : r.count ≡ length values
  pub size : how.writes ≡ true → r.size ≡ length (flatten values)
  pub last : last_words values ≡ scalar_words r.len r.word
  pub put : o' ≡ (if how.writes then sets o (how.at + 1) (flatten values) else o)
  pub few : length values ≤ 257
  pub fits : length (flatten values) ≤ 514
  pub cost : r.tries ≤ 16512
  pub left : LeftState m p m' r.numbers
