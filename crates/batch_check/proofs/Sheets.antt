-- What the tests of a batch say of it.
use mathlib.Core.Bool.{Bool, true, false, ◌&&◌}
use mathlib.Core.List.{List}
use mathlib.Core.Logic.{inr}
use mathlib.Core.Path.{◌≡◌, refl}
use Prim.Native.Nat.{ℕ, ◌+◌, ◌≤◌, ◌<◌}
use native.Mathlib.Omega.{arith}
use lib.Dec.{leb}
use lib.ListN.{length}
use Rattle.wire.specs.Wire.{table_good, HasEntry}
use Rattle.wire.specs.Laws.{good_table, start_least}
use Rattle.rules.specs.Batch.{sheet_count, batch_good, parts_fit}
use Rattle.rules.proofs.Acceptance.{and-true}
use Rattle.batch_check.specs.Sheets.{HasSheet}

-- ---- the batch
pub record GoodBatch (b : List ℕ) : Type 0 where
  pub table : table_good 4 (sheet_count b) b ≡ true
  pub long : sheet_count b + 3 ≤ length b

pub good_batch : (b : List ℕ) → batch_good b ≡ true → GoodBatch b
unfolding batch_good
good_batch b e =
    let n = sheet_count b in
    let p = and-true (leb n 32) (table_good 4 n b) e in
    let long = (good_table 4 n b p.1).long in
    record { table = p.1; long = omega (arith, start_least 4 n (inr refl)) }

pub sheet_entry : (b : List ℕ) (k : ℕ) → HasSheet b k → HasEntry 4 (sheet_count b) b k
sheet_entry b k h = record { width = inr refl; good = (good_batch b h.good).table; below = h.below }

module _ (b : List ℕ) (nr ni na nl : ℕ) where
  pub batch_short : length b < 2 → false ≡ (batch_good b && parts_fit (sheet_count b) nr ni na nl)
  batch_short h = go (batch_good b) refl
    where
      go : (g : Bool) → batch_good b ≡ g → false ≡ (g && parts_fit (sheet_count b) nr ni na nl)
      go false e = refl
      go true e = absurd (omega (arith, (good_batch b e).long))
