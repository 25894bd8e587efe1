-- A sheet that is written to a slice argument by argument.
use mathlib.Core.List.{List, ◌++◌, flatten}
use Rattle.std.specs.Prelude.{ℕ, ◌+◌, ◌-◌, ◌*◌, ◌≤◌, ◌<◌, length, replicate}
use Rattle.std.proofs.lemmas.List.Edits.{sets}
use Rattle.wire.specs.Wire.{area_start}
use Rattle.rules.specs.Encode.{bytes_of, words_of, offsets_from}

-- a sheet of n arguments of which the first are written: the other offsets are 0
unfoldable pub sheet_so_far : ℕ → List (List ℕ) → List ℕ
sheet_so_far n args =
    bytes_of 2 n ++ (words_of 2 (offsets_from 0 args) ++ (replicate (2 * (n - length args)) 0 ++ flatten args))

-- the offset behind argument k, which begins at `at` in the area, and its bytes
unfoldable pub with_argument : ℕ → ℕ → ℕ → List ℕ → List ℕ → List ℕ
with_argument n k at bytes o = sets (sets o (2 + 2 * (k + 1)) (bytes_of 2 (at + length bytes))) (area_start 2 n + at) bytes

pub record CanBegin (o : List ℕ) (n : ℕ) : Type 0 where
  pub few : n < 65536
  pub room : area_start 2 n ≤ length o

pub record CanPut (o : List ℕ) (n k at : ℕ) (bytes : List ℕ) : Type 0 where
  pub few : n < 65536
  pub below : k < n
  pub short : at + length bytes < 65536
  pub room : area_start 2 n + (at + length bytes) ≤ length o
