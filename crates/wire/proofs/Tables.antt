-- The steps of the loop over a table's offsets: each way out against the definition.
use mathlib.Core.Path.{◌≡◌, refl, ◌∙◌}
use mathlib.Core.Bool.{true, false}
use mathlib.Core.List.{List}
use Prim.Native.Nat.{ℕ, ◌+◌, ◌-◌, ◌≤◌, ◌<◌}
use native.Mathlib.Omega.{arith}
use lib.Dec.{eqb}
use lib.ListN.{length, length-drop}
use borrow.Author.Tests.{lt-leb, le-leb, eq-eqb, ne_eqb}
use Rattle.wire.specs.Wire.{offset, area_start, area, never_fall, table_good}
use Rattle.wire.specs.Laws.{rises_more, fallen}

-- the offsets up to k were seen not to fall, and the last of them is `last`
pub record Risen (w n : ℕ) (b : List ℕ) (last k : ℕ) : Type 0 where
  pub within : k ≤ n
  pub rising : never_fall w b k ≡ true
  pub same : last ≡ offset w b k

pub risen_first : (w n : ℕ) (b : List ℕ) (x : ℕ) → x ≡ offset w b 0 → Risen w n b x 0
unfolding never_fall
risen_first w n b x e = record { within = omega arith; rising = refl; same = e }

pub risen_next :
    (w n : ℕ) (b : List ℕ) (last next k : ℕ)
    → Risen w n b last k
    → next ≡ offset w b (k + 1)
    → last ≤ next
    → k < n
    → Risen w n b next (k + 1)
risen_next w n b last next k r e h l =
    let same = r.same in
    record { within = omega arith; rising = rises_more w b k r.rising (omega arith); same = e }

module _ (w n : ℕ) (b : List ℕ) (start : ℕ) (e : start ≡ area_start w n) where
  pub too_short : length b < start → false ≡ table_good w n b
  unfolding table_good
  too_short h = rw (lt-leb (area_start w n) (length b) (omega arith))

  module _ (long : start ≤ length b) (x : ℕ) (first : x ≡ offset w b 0) where
    pub first_bad : (x ≡ 0 → ⊥) → false ≡ table_good w n b
    unfolding table_good
    first_bad h = rw (le-leb (area_start w n) (length b) (omega arith), ne_eqb (offset w b 0) 0 (λ z. h (first ∙ z)))

    module _ (zero : x ≡ 0) (last k : ℕ) (r : Risen w n b last k) where
      pub falls : (next : ℕ) → next ≡ offset w b (k + 1) → next < last → k < n → false ≡ table_good w n b
      unfolding table_good
      falls next p h l =
          let same = r.same in
          rw (le-leb (area_start w n) (length b) (omega arith), eq-eqb (offset w b 0) 0 (omega arith), fallen w b n k l (omega arith))

      pub last_test : n ≤ k → eqb last (length b - start) ≡ table_good w n b
      unfolding table_good area
      last_test h =
          let within = r.within in
          let all : k ≡ n = omega arith in
          let rising : never_fall w b n ≡ true = rw all at r.rising in
          let same : last ≡ offset w b n = rw all at r.same in
          rw (le-leb (area_start w n) (length b) (omega arith), eq-eqb (offset w b 0) 0 (omega arith), rising, length-drop (area_start w n) b, same, e)
