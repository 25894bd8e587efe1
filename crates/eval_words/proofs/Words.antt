-- The words of values in the lent slice: stores one after the other, words set aside, and zeros put back.
use mathlib.Core.Bool.{Bool, true, false}
use mathlib.Core.List.{List, [], ◌∷◌, ◌++◌, append_assoc}
use mathlib.Core.Path.{◌≡◌, refl, sym, ap, ◌∙◌}
use Prim.Native.Nat.{ℕ, suc, ◌+◌, ◌-◌, ◌≤◌, ◌<◌}
use native.Mathlib.Nat.{add-zero, add-suc, suc-add}
use native.Mathlib.Numerals.{add-one}
use native.Mathlib.Omega.{arith}
use lib.ListN.{length, length-drop, get_or, set, take, drop, replicate}
use lib.Seq.{sets, set_comm, set-set, set-get_or, sets-eq, drop_at, length-take-le, take-append_seam}
use borrow.Author.Tests.{eq-eqb, ne_eqb}
use Rattle.eval_words.specs.Stored.{settled}

-- ---- stores
-- a store before the others commutes with them
sets_before : (w l : List ℕ) (i j a : ℕ) → j < i → set (sets l i w) j a ≡ sets (set l j a) i w
sets_before [] l i j a h = refl
sets_before (x ∷ w) l i j a h =
    sets_before w (set l i x) (suc i) j a (omega arith)
    ∙ ap (λ (r : List ℕ). sets r (suc i) w) (set_comm l i j x a (λ e. omega arith))

pub sets_append : (w v l : List ℕ) (i : ℕ) → sets l i (w ++ v) ≡ sets (sets l i w) (i + length w) v
sets_append [] v l i = rw add-zero
sets_append (x ∷ w) v l i = sets_append w v (set l i x) (suc i) ∙ rw (suc-add, ← add-suc)

pub set_zero : (o : List ℕ) (at : ℕ) → get_or o at 0 ≡ 0 → set o at 0 ≡ o
set_zero o at h = ap (λ (a : ℕ). set o at a) (sym h) ∙ set-get_or o at 0

-- what was written over zeros, and zeroed again, is as it was
pub sets_back : (w o : List ℕ) (at : ℕ) → ((k : ℕ) → at ≤ k → get_or o k 0 ≡ 0) → sets (sets o at w) at (replicate (length w) 0) ≡ o
sets_back [] o at z = refl
sets_back (x ∷ w) o at z =
    ap (λ (r : List ℕ). sets r (suc at) (replicate (length w) 0))
    (sets_before w (set o at x) (suc at) at 0 (omega arith)
    ∙ ap (λ (r : List ℕ). sets r (suc at) w) (set-set o at x 0 ∙ set_zero o at (z at (omega arith))))
    ∙ sets_back w o (suc at) (λ k h. z k (omega arith))

-- the count goes before the values
pub sets_head : (w o : List ℕ) (at c : ℕ) → set (sets o (at + 1) w) at c ≡ sets o at (c ∷ w)
sets_head w o at c =
    sets_before w o (at + 1) at c (omega arith) ∙ ap (λ (k : ℕ). sets (set o at c) k w) (add-one at)

-- words behind a store
under : (w o : List ℕ) (at x y : ℕ) → set (sets (set o at x) (suc at) w) at y ≡ sets (set o at y) (suc at) w
under w o at x y =
    sets_before w (set o at x) (suc at) at y (omega arith) ∙ ap (λ (r : List ℕ). sets r (suc at) w) (set-set o at x y)

-- as many words or more, over others
pub sets_over : (w v o : List ℕ) (at : ℕ) → length w ≤ length v → sets (sets o at w) at v ≡ sets o at v
sets_over [] v o at h = refl
sets_over (x ∷ w) [] o at h = absurd (omega arith)
sets_over (x ∷ w) (y ∷ v) o at h =
    ap (λ (r : List ℕ). sets r (suc at) v) (under w o at x y)
    ∙ sets_over w v (set o at y) (suc at) (omega arith)

-- the words that were written are there
sets_part : (w o : List ℕ) (at : ℕ) → at + length w ≤ length o → take (length w) (drop at (sets o at w)) ≡ w
sets_part w o at h =
    rw (sets-eq w o at h, append_assoc (take at o) w (drop (at + length w) o), drop_at (take at o) (w ++ drop (at + length w) o) at (length-take-le at o (omega arith)))
    (take-append_seam w (drop (at + length w) o))

pub sets_read : (w o o' : List ℕ) (at n : ℕ) → o' ≡ sets o at w → n ≡ length w → at + length w ≤ length o → take n (drop at o') ≡ w
sets_read w o o' at n q e h = rw (q, e) (sets_part w o at h)

-- ---- words set aside
pub lifted :
    (o v : List ℕ) (at n : ℕ) (r : List ℕ)
    → n ≤ 515
    → at + n ≤ length o
    → length v ≡ 515
    → r ≡ sets v 0 (take (at + n - at) (drop at o))
    → take n r ≡ take n (drop at o)
lifted o v at n r a b l e =
    let w : List ℕ = take n (drop at o) in
    let long : length w ≡ n = length-take-le n (drop at o) (simp length-drop (omega arith)) in
    let all : at + n - at ≡ n = omega arith in
    let there : r ≡ sets v 0 w = rw all at e in
    rw there (ap (λ (j : ℕ). take j (sets v 0 w)) (sym long) ∙ sets_part w v 0 (omega arith))

-- ---- which words of a choice stand
module _ (o : List ℕ) (at : ℕ) (kept : List ℕ) (n : ℕ) where
  pub settled_refused : (number : ℕ) (first : Bool) → (number ≡ 0 → ⊥) → settled number first o at kept n ≡ sets o at (replicate n 0)
  unfolding settled
  settled_refused number first z = rw (ne_eqb number 0 z)

  pub settled_first : (number : ℕ) (first : Bool) → number ≡ 0 → first ≡ true → settled number first o at kept n ≡ sets (sets o at (replicate n 0)) at kept
  unfolding settled
  settled_first number first z e = rw (eq-eqb number 0 z, e)

  pub settled_second : (number : ℕ) (first : Bool) → number ≡ 0 → first ≡ false → settled number first o at kept n ≡ o
  unfolding settled
  settled_second number first z e = rw (eq-eqb number 0 z, e)
