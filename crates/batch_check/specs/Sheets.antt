-- A batch that is well made, and one of its sheets.
use Rattle.std.specs.Prelude.{true, List, ◌≡◌, ℕ, ◌<◌}
use Rattle.rules.specs.Batch.{sheet_count, batch_good}

pub record HasSheet (b : List ℕ) (k : ℕ) : Type 0 where
  pub good : batch_good b ≡ true
  pub below : k < sheet_count b
