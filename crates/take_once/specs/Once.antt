-- The nearest earlier place with the same name.
use Rattle.std.specs.Prelude.{List, ◌≡◌, ℕ, ◌≤◌, ◌<◌, length}
use Rattle.rules.specs.Outcome.{ok}
use Rattle.rules.specs.Sheet.{sheet_area, sheet_fault}
use Rattle.rules.specs.Split.{Item}
use Rattle.rules.specs.State.{only_once}
use Rattle.rules.specs.Codes.{place_of}
use Rattle.take_search.specs.Items.{Table}

-- a place of one of the items
pub record HasPlace (s words : List ℕ) (i : ℕ) : Type 0 where
  pub made : sheet_fault s ≡ 0
  pub items : List Item
  pub table : Table (sheet_area s) words items
  pub below : i < length items

-- an earlier place plus 1, or 0
pub record Earlier (area words : List ℕ) (i r : ℕ) : Type 0 where
  pub within : r ≤ i
  pub same : (is : List Item) → Table area words is → i < length is → only_once is i ≡ ok (place_of r)
