-- The places used between two lists of marks: which they are, that they rise, and what marks that were written make of them.
use mathlib.Core.Bool.{Bool, true, false, not, ◌&&◌, ◌||◌, false≢true}
use mathlib.Core.List.{List, [], ◌∷◌, ◌++◌}
use mathlib.Core.Path.{◌≡◌, refl, sym, ap, ◌∙◌}
use Prim.Native.Nat.{ℕ, zero, suc, ◌+◌, ◌≤◌}
use native.Mathlib.Omega.{arith}
use borrow.Author.Tests.{eq-eqb, ne_eqb, eqb-true, eqb-false}
use lib.Dec.{eqb}
use lib.ListN.{length, get_or, set, replicate, length-set}
use lib.Seq.{get_or-set_other}
use Rattle.std.specs.Prelude.{if◌then◌else◌}
use Rattle.rules.specs.Base.{contains, all}
use Rattle.rules.specs.Tree.{zeros}
use Rattle.rules.specs.State.{marker_mark, parsed, present, present_at}
use Rattle.rules.specs.Demands.{All}
use Rattle.rules.proofs.Places.{if_elim, left, right}
use Rattle.rules_preview.specs.Preview.{used_from, used_between}
use Rattle.rules_preview.specs.PreviewAnswered.{used_at, Rising}

-- ---- any two lists
from_least : (j k : ℕ) (ms us : List ℕ) → j ≤ k → All (λ i. j ≤ i) (used_from k ms us)
unfolding used_from
from_least j k [] us h = tt
from_least j k (m ∷ ms) [] h = tt
from_least j k (m ∷ ms) (u ∷ us) h =
    let rest = from_least j (suc k) ms us (omega arith) in
    if_elim (All (λ i. j ≤ i)) _ (k ∷ used_from (suc k) ms us) (used_from (suc k) ms us) (λ _. (h, rest)) (λ _. rest)

from_rising : (k : ℕ) (ms us : List ℕ) → Rising (used_from k ms us)
unfolding used_from
from_rising k [] us = tt
from_rising k (m ∷ ms) [] = tt
from_rising k (m ∷ ms) (u ∷ us) =
    let rest = from_rising (suc k) ms us in
    if_elim Rising _ (k ∷ used_from (suc k) ms us) (used_from (suc k) ms us) (λ _. (from_least (suc k) (suc k) ms us (omega arith), rest)) (λ _. rest)

pub between_rising : (ms us : List ℕ) → Rising (used_between ms us)
unfolding used_between
between_rising ms us = from_rising 0 ms us

-- a place before all of them
below_none : (j : ℕ) (l : List ℕ) → All (λ i. suc j ≤ i) l → contains l j ≡ false
unfolding contains
below_none j [] h = refl
below_none j (i ∷ l) h = rw (ne_eqb i j (λ e. omega (arith, h.0)), below_none j l h.1)

from_here : (b : Bool) (k : ℕ) (l : List ℕ) → contains l k ≡ false → contains (if b then k ∷ l else l) k ≡ b
unfolding contains
from_here true k l h = rw (eq-eqb k k refl)
from_here false k l h = h

from_later : (b : Bool) (k i : ℕ) (l : List ℕ) → contains (if b then k ∷ l else l) (k + suc i) ≡ contains l (k + suc i)
unfolding contains
from_later true k i l = rw (ne_eqb k (k + suc i) (λ e. omega arith))
from_later false k i l = refl

from_exactly : (k : ℕ) (ms us : List ℕ) (i : ℕ) → contains (used_from k ms us) (k + i) ≡ (present_at ms i && used_at us i)
unfolding used_from contains present_at used_at
from_exactly k [] us i = refl
from_exactly k (m ∷ ms) [] i = and-false (present_at (m ∷ ms) i)
  where
    and-false : (b : Bool) → false ≡ (b && false)
    and-false true = refl
    and-false false = refl
from_exactly k (m ∷ ms) (u ∷ us) zero =
    let z : k + 0 ≡ k = omega arith in
    rw z (from_here _ k (used_from (suc k) ms us) (below_none k (used_from (suc k) ms us) (from_least (suc k) (suc k) ms us (omega arith))))
from_exactly k (m ∷ ms) (u ∷ us) (suc i) =
    let z : k + suc i ≡ suc k + i = omega arith in
    from_later _ k i (used_from (suc k) ms us) ∙ rw z (from_exactly (suc k) ms us i)

pub between_exactly : (ms us : List ℕ) (i : ℕ) → contains (used_between ms us) i ≡ (present_at ms i && used_at us i)
unfolding used_between
between_exactly ms us i = let z : i ≡ 0 + i = omega arith in ap (contains (used_from 0 ms us)) z ∙ from_exactly 0 ms us i

-- ---- the same marks
not_both : (m : ℕ) → (present m && parsed m) ≡ false
unfolding present
not_both m = go (parsed m)
  where
    go : (b : Bool) → (not b && b) ≡ false
    go true = refl
    go false = refl

same_none : (k : ℕ) (ms : List ℕ) → used_from k ms ms ≡ []
unfolding used_from
same_none k [] = refl
same_none k (m ∷ ms) = rw (not_both m) (same_none (suc k) ms)

pub between_same : (ms : List ℕ) → used_between ms ms ≡ []
unfolding used_between
between_same ms = same_none 0 ms

-- ---- marks of which a mark w was written at a place that is present, or at two
module _ (w : ℕ) (told : parsed w ≡ true) where
  one_used : (k : ℕ) (ms : List ℕ) (i : ℕ) → present_at ms i ≡ true → used_from k ms (set ms i w) ≡ (k + i) ∷ []
  unfolding used_from present_at
  one_used k [] i p = absurd (false≢true p)
  one_used k (m ∷ ms) zero p = let z : k + 0 ≡ k = omega arith in rw (p, told, same_none (suc k) ms, z)
  one_used k (m ∷ ms) (suc i) p = let z : k + suc i ≡ suc k + i = omega arith in rw (not_both m, z) (one_used (suc k) ms i p)

  two_used : (k : ℕ) (ms : List ℕ) (i : ℕ) → present_at ms i ≡ true → present_at ms (suc i) ≡ true
      → used_from k ms (set (set ms i w) (suc i) w) ≡ (k + i) ∷ (k + suc i) ∷ []
  unfolding used_from present_at
  two_used k [] i p q = absurd (false≢true p)
  two_used k (m ∷ ms) zero p q =
      let z : k + 0 ≡ k = omega arith in
      let y : suc k + 0 ≡ k + 1 = omega arith in
      rw (p, told, one_used (suc k) ms 0 q, z, y)
  two_used k (m ∷ ms) (suc i) p q =
      let z : k + suc i ≡ suc k + i = omega arith in
      let y : k + suc (suc i) ≡ suc k + suc i = omega arith in
      rw (not_both m, z, y) (two_used (suc k) ms i p q)

-- ---- what stands behind: anything before, zeros after
zero_unused : parsed 0 ≡ false
unfolding parsed marker_mark
zero_unused = refl

zeros_none : (k : ℕ) (ms : List ℕ) (n : ℕ) → used_from k ms (replicate n 0) ≡ []
unfolding used_from
zeros_none k [] n = refl
zeros_none k (m ∷ ms) zero = refl
zeros_none k (m ∷ ms) (suc n) = rw (zero_unused, and-false (present m)) (zeros_none (suc k) ms n)
  where
    and-false : (b : Bool) → (b && false) ≡ false
    and-false true = refl
    and-false false = refl

from_padded : (k : ℕ) (ms us z : List ℕ) (n : ℕ) → length us ≡ length ms → used_from k (ms ++ z) (us ++ replicate n 0) ≡ used_from k ms us
unfolding used_from
from_padded k [] [] z n e = zeros_none k z n
from_padded k [] (u ∷ us) z n e = absurd (omega (arith, e))
from_padded k (m ∷ ms) [] z n e = absurd (omega (arith, e))
from_padded k (m ∷ ms) (u ∷ us) z n e = rw (from_padded (suc k) ms us z n (omega (arith, e)))

pub between_padded : (ms us z : List ℕ) (n : ℕ) → length us ≡ length ms → used_between (ms ++ z) (us ++ replicate n 0) ≡ used_between ms us
unfolding used_between
between_padded ms us z n e = from_padded 0 ms us z n e

-- a mark is 0 where all are
zeros_at : (z : List ℕ) (i : ℕ) → zeros z ≡ true → get_or z i 0 ≡ 0
unfolding zeros all
zeros_at [] i h = refl
zeros_at (x ∷ z) zero h = sym (eqb-true 0 x (left (eqb 0 x) (all (eqb 0) z) h))
zeros_at (x ∷ z) (suc i) h = zeros_at z i (right (eqb 0 x) (all (eqb 0) z) h)

replicate_at : (n i : ℕ) → ◌≡◌ {A = ℕ} (get_or (replicate n 0) i 0) 0
replicate_at zero i = refl
replicate_at (suc n) zero = refl
replicate_at (suc n) (suc i) = replicate_at n i

pub stays_padded : (ms us z : List ℕ) (n i : ℕ) → zeros z ≡ true → length us ≡ length ms → get_or us i 0 ≡ get_or ms i 0
    → get_or (us ++ replicate n 0) i 0 ≡ get_or (ms ++ z) i 0
stays_padded [] [] z n i h e s = replicate_at n i ∙ sym (zeros_at z i h)
stays_padded [] (u ∷ us) z n i h e s = absurd (omega (arith, e))
stays_padded (m ∷ ms) [] z n i h e s = absurd (omega (arith, e))
stays_padded (m ∷ ms) (u ∷ us) z n zero h e s = s
stays_padded (m ∷ ms) (u ∷ us) z n (suc i) h e s = stays_padded ms us z n i h (omega (arith, e)) s

-- ---- marks changed by a take: none, one, or two places that were present
pub data Written (w : ℕ) (ms : List ℕ) : List ℕ → List ℕ → Type 0 where
  nothing : Written w ms ms []
  one : (i : ℕ) → present_at ms i ≡ true → Written w ms (set ms i w) (i ∷ [])
  two : (i : ℕ) → present_at ms i ≡ true → present_at ms (suc i) ≡ true → Written w ms (set (set ms i w) (suc i) w) (i ∷ suc i ∷ [])

not_first : (j i : ℕ) (l : List ℕ) → contains (j ∷ l) i ≡ false → (i ≡ j → ⊥) × (contains l i ≡ false)
unfolding contains
not_first j i l h = go (eqb j i) refl h
  where
    go : (b : Bool) → eqb j i ≡ b → (b || contains l i) ≡ false → (i ≡ j → ⊥) × (contains l i ≡ false)
    go true e h = absurd (false≢true (sym h))
    go false e h = (λ z. eqb-false j i e (sym z), h)

module _ (w : ℕ) (ms : List ℕ) where
  pub written_long : (us l : List ℕ) → Written w ms us l → length us ≡ length ms
  written_long us l nothing = refl
  written_long us l (one i p) = length-set ms i w
  written_long us l (two i p q) = length-set (set ms i w) (suc i) w ∙ length-set ms i w

  pub written_few : (us l : List ℕ) → Written w ms us l → length l ≤ 2
  written_few us l nothing = omega arith
  written_few us l (one i p) = omega arith
  written_few us l (two i p q) = omega arith

  pub written_used : parsed w ≡ true → (us l : List ℕ) → Written w ms us l → used_between ms us ≡ l
  unfolding used_between
  written_used told us l nothing = same_none 0 ms
  written_used told us l (one i p) = let z : 0 + i ≡ i = omega arith in rw z at (one_used w told 0 ms i p)
  written_used told us l (two i p q) =
      let z : 0 + i ≡ i = omega arith in
      let y : 0 + suc i ≡ suc i = omega arith in
      rw (z, y) at (two_used w told 0 ms i p q)

  pub written_others : (us l : List ℕ) → Written w ms us l → (i : ℕ) → contains l i ≡ false → get_or us i 0 ≡ get_or ms i 0
  unfolding contains
  written_others us l nothing i h = refl
  written_others us l (one j p) i h = get_or-set_other ms j i w 0 (not_first j i [] h).0
  written_others us l (two j p q) i h =
      let (first, rest) = not_first j i (suc j ∷ []) h in
      get_or-set_other (set ms j w) (suc j) i w 0 (not_first (suc j) i [] rest).0 ∙ get_or-set_other ms j i w 0 first
