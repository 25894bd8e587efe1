-- Matching one item, and searching the present places for the first that matches.
use Rattle.std.specs.Prelude.{Bool, true, false, List, ◌≡◌, ℕ, ◌+◌, ◌-◌, ◌*◌, ◌≤◌, ◌<◌, length}
use Rattle.std.proofs.Math.Option.{Option, some, none}
use Rattle.rules.specs.Form.{name_count}
use Rattle.rules.specs.Outcome.{Outcome, ok, refused, fault}
use Rattle.rules.specs.Sheet.{sheet_area, sheet_fault}
use Rattle.rules.specs.Split.{Item}
use Rattle.rules.specs.State.{Found, present_at, present_from, find_in}
use Rattle.rules.specs.Calls.{item_from}
use Rattle.split_arg.specs.Items.{record_at}
use Rattle.form_layout.specs.Layout.{GoodNames}
use Rattle.form_codes.specs.Codes.{CodedNames}
use Rattle.take_search.specs.Items.{Table}

-- names of a checked form: `count` records from `first` on
pub record HasNames (b codes : List ℕ) (first count : ℕ) : Type 0 where
  pub checked : GoodNames b
  pub coded : CodedNames b codes
  pub inside : first + count ≤ name_count b

-- an item to be matched
pub record HasItem (s words : List ℕ) (i : ℕ) : Type 0 where
  pub made : sheet_fault s ≡ 0
  pub room : 7 * i + 7 ≤ length words
  pub item : Item
  pub here : item_from (sheet_area s) (record_at words i) ≡ some item

-- items to be searched
pub record HasItems (s words marks : List ℕ) (from end : ℕ) : Type 0 where
  pub made : sheet_fault s ≡ 0
  pub items : List Item
  pub table : Table (sheet_area s) words items
  pub inside : end ≤ length items
  pub order : from ≤ end
  pub marked : end ≤ length marks

-- the place that a search found, or the end
abbrev pub place_or : ℕ → Outcome (Option Found) → ℕ
place_or end (ok none) = end
place_or end (ok (some x)) = x.place
place_or end (refused e) = end
place_or end (fault f) = end

-- the first present place below `end`, from `from` on, whose item passes a test
abbrev pub seek : List Item → (Item → Bool) → List ℕ → ℕ → ℕ → Outcome (Option Found)
seek is test marks from end = find_in is test (present_from marks (end - from) from)

-- what a search answers, for the items that the words are
abbrev pub Sought : List ℕ → List ℕ → (Item → Bool) → List ℕ → ℕ → ℕ → ℕ → Type 0
Sought area words test marks from end r =
    (is : List Item) → Table area words is → end ≤ length is → r ≡ place_or end (seek is test marks from end)

-- no place of start..from is present with an item that passes the test
abbrev pub Passed : List ℕ → List ℕ → (Item → Bool) → List ℕ → ℕ → ℕ → Type 0
Passed area words test marks start from =
    (k : ℕ)
    → start ≤ k
    → k < from
    → present_at marks k ≡ true
    → (x : Item)
    → item_from area (record_at words k) ≡ some x
    → test x ≡ false
