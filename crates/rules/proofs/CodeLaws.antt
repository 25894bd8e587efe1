-- A place and its code, in both directions.
use mathlib.Core.Option.{Option, some, none}
use mathlib.Core.Path.{◌≡◌, refl}
use Prim.Native.Nat.{ℕ, zero, suc, ◌+◌, ◌-◌}
use native.Mathlib.Numerals.{add-one}
use native.Mathlib.Omega.{arith}
use Rattle.rules.specs.Codes.{place_code, place_of}

pub place_code_lem : (k : Option ℕ) → place_of (place_code k) ≡ k
unfolding place_of
place_code_lem none = refl
place_code_lem (some i) = refl

pub code_place : (c : ℕ) → place_code (place_of c) ≡ c
unfolding place_of
code_place zero = refl
code_place (suc i) = refl

pub place_next : (i : ℕ) → place_of (i + 1) ≡ some i
unfolding place_of
place_next i = rw (add-one i)

-- as the code tests
pub place_some : (c : ℕ) → (c ≡ 0 → ⊥) → place_of c ≡ some (c - 1)
unfolding place_of
place_some zero h = absurd (h refl)
place_some (suc i) h = let z : suc i - 1 ≡ i = omega arith in rw z
