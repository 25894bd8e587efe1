-- What a lent slice of records holds, and what a call on items is given.
use Rattle.std.proofs.Math.Option.{none}
use Rattle.std.specs.Prelude.{List, ◌≡◌, ℕ, ◌/◌, ◌≤◌, length}
use Rattle.std.specs.Prelude.{Option, Some, None, Result, Ok, Err}
use Rattle.rules.specs.Outcome.{Outcome, ok, refused, refuse, ◌>>=◌}
use Rattle.rules.specs.Sheet.{sheet_area, sheet_fault}
use Rattle.rules.specs.Split.{Item}
use Rattle.rules.specs.Calls.{records_in, trimmed, items_in, sheet_in, slice_in, from_raw, state_in}
use Rattle.rules.specs.declared.State.{State as Raw}
use Rattle.rules.specs.declared.Refusal.{Refusal}
use Rattle.rules.specs.Reported.{number_of}
use Rattle.take_search.specs.Items.{Table}

-- the whole records up to the last that is not all 0 are the first n
pub record Trims (words : List ℕ) (n : ℕ) : Type 0 where
  pub within : n ≤ length words / 7
  pub same : trimmed (records_in (length words / 7) words) ≡ records_in n words

-- ---- the items of a slice
pub record Holds (area words : List ℕ) (n : ℕ) : Type 0 where
  pub items : List Item
  pub read : items_in area words ≡ ok items
  pub count : length items ≡ n
  pub table : Table area words items

abbrev pub Checks : List ℕ → List ℕ → Option ℕ → Type 0
Checks area words (Some n) = Holds area words n
Checks area words None = items_in area words ≡ refused (refuse 30 none)

-- ---- the input of a call on items: 5, 6, 7, 30
unfoldable pub items_given : List ℕ → List ℕ → Outcome (List Item)
items_given s words = sheet_in s >>= λ area. slice_in 1792 words >>= λ l. items_in area l

pub record HasTable (s words : List ℕ) (n : ℕ) : Type 0 where
  pub made : sheet_fault s ≡ 0
  pub room : 1792 ≤ length words
  pub holds : Holds (sheet_area s) words n

abbrev pub Gives : List ℕ → List ℕ → Result ℕ Refusal → Type 0
Gives s words (Ok n) = HasTable s words n
Gives s words (Err e) = items_given s words ≡ refused (refuse (number_of e) none)

-- ---- and with a state over these items, used by fields below a number: 29
pub record HasState (fields : ℕ) (s words : List ℕ) (x : Raw) : Type 0 where
  pub table : HasTable s words x.count
  pub good : state_in fields x.count x ≡ ok (from_raw x)

abbrev pub GivesState : {A : Type 0} → ℕ → List ℕ → List ℕ → Raw → Result A Refusal → Type 0
GivesState fields s words x (Ok a) = HasState fields s words x
GivesState fields s words x (Err e) = (items_given s words >>= λ is. state_in fields (length is) x) ≡ refused (refuse (number_of e) none)
