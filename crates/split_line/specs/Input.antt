-- What is known of the input that can be split.
use Rattle.std.specs.Prelude.{List, ◌≡◌, ℕ, ◌≤◌, length}
use Rattle.rules.specs.Sheet.{sheet_fault}
use Rattle.rules.specs.Accept.{Accepted, accepted, check_form}

-- an accepted form, a checked sheet, and room for the items
pub record Splittable (form sheet items : List ℕ) : Type 0 where
  pub result : Accepted
  pub accepts : check_form form ≡ accepted result
  pub checked : sheet_fault sheet ≡ 0
  pub room : 1792 ≤ length items
