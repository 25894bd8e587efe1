-- A checked sheet that has an argument, or an offset.
use Rattle.std.specs.Prelude.{◌≡◌, List, ℕ, ◌<◌, ◌≤◌}
use Rattle.rules.specs.Sheet.{argument_count, sheet_fault}

pub record HasArgument (s : List ℕ) (k : ℕ) : Type 0 where
  pub made : sheet_fault s ≡ 0
  pub below : k < argument_count s

-- the last offset is where the last argument ends
pub record HasOffset (s : List ℕ) (k : ℕ) : Type 0 where
  pub made : sheet_fault s ≡ 0
  pub within : k ≤ argument_count s
