-- The words of a value that is no list.
use mathlib.Core.Bool.{Bool, true, false}
use mathlib.Core.List.{[], ◌∷◌}
use Prim.Native.Nat.{ℕ, ◌≤◌}
use native.Mathlib.Omega.{arith}
use lib.Dec.{eqb}
use lib.ListN.{length}
use Rattle.std.specs.Prelude.{if◌then◌else◌}
use Rattle.eval_told.specs.Told.{scalar_words}

-- at most two words
pub scalar_short : (len word : ℕ) → length (scalar_words len word) ≤ 2
unfolding scalar_words
scalar_short len word = go (eqb len 0) (eqb len 1)
  where
    go : (a b : Bool) → length (if a then [] else (if b then word ∷ [] else 1 ∷ word ∷ [])) ≤ 2
    go true b = omega arith
    go false true = omega arith
    go false false = omega arith
