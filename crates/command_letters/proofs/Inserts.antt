-- A letter put into a slice: the words behind it go up by one, and the list that stands there is `put_in`'s.
use mathlib.Core.Path.{◌≡◌, refl, sym, ap, ◌∙◌}
use mathlib.Core.Bool.{Bool, true, false}
use mathlib.Core.List.{List, [], ◌∷◌, ◌++◌, append_assoc}
use Prim.Native.Nat.{ℕ, zero, suc, ◌+◌, ◌-◌, ◌≤◌, ◌<◌}
use native.Mathlib.Numerals.{add-one}
use native.Mathlib.Omega.{arith}
use lib.Dec.{ltb}
use lib.ListN.{length, get_or, take, drop, set, length-append, length-drop, take-append-drop}
use lib.Seq.{slice, take-suc, take-add, get_or-take, set_at, take_at, drop_at, drop-drop, length-take-le, take-take, length-slice}
use borrow.Rule.Slice.PartMut.{put_mid}
use borrow.Author.Tests.{eq-eqb, ne_eqb, lt-ltb, le-ltb, ltb-true, ltb-false}
use Rattle.rules.specs.Base.{contains}
use Rattle.split_arg.specs.Order.{Parted}
use Rattle.command_letters.specs.Gather.{put_in, opened, HasRoom, Holds}
use Rattle.split_arg.proofs.Order.{parted_end, parted_here, ascending_insert}

-- ---- `store`
-- the last of the words from `at` to n goes to the front of them, and the letter takes its place
module _ (o r : List ℕ) (at n x : ℕ) (low : at ≤ n) (high : n < length o) where
  abbrev turning : List ℕ
  turning = take (n + 1 - at) (drop at o)

  pub stored : r ≡ drop (length turning - 1) turning ++ take (length turning - 1) turning → set (put_mid at (n + 1 - at) o r) at x ≡ opened o at n x
  unfolding opened
  stored rotated =
      let m = n - at in
      let l = drop at o in
      let y = get_or l m 0 in
      let long : m < length l = omega (arith, length-drop at o) in
      let size : n + 1 - at ≡ suc m = omega arith in
      let front : length (take m l) ≡ m = length-take-le m l (omega arith) in
      let parts : turning ≡ take m l ++ (y ∷ []) = rw size (take-suc l m 0 long) in
      let last : length turning - 1 ≡ m = omega (arith, ap length parts, length-append (take m l) (y ∷ []), front) in
      let turned : r ≡ y ∷ take m l = rotated ∙ rw (last, parts, drop_at (take m l) (y ∷ []) m front, take_at (take m l) (y ∷ []) m front) in
      let whole : n ≡ at + m = omega arith in
      let between : slice at n o ≡ take m l =
      ap (λ (k : ℕ). drop at (take k o)) whole
      ∙ ap (λ (s : List ℕ). drop at s) (take-add at m o)
      ∙ drop_at (take at o) (take m l) at (length-take-le at o (omega arith)) in
      let past : at + suc m ≡ suc n = omega arith in
      let behind : drop (n + 1 - at) (drop at o) ≡ drop (suc n) o = rw (size, ← past) (drop-drop (suc m) at o) in
      rw (turned, behind, between, append_assoc (take at o) (x ∷ take m l) (drop (suc n) o))
      (set_at (take at o) y (take m l ++ drop (suc n) o) x at (length-take-le at o (omega arith)))

-- ---- `put_in` at the letter's place
parted_tail : (x y : ℕ) (ys : List ℕ) (p : ℕ) → Parted (y ∷ ys) x (suc p) → Parted ys x p
parted_tail x y ys p z = record {
  within = omega (arith, z.within);
  below = λ i h. z.below (suc i) (omega arith);
  above = λ i h l. z.above (suc i) (omega arith) (omega arith);
}

pub put_there : (x : ℕ) (s : List ℕ) (p : ℕ) → Parted s x p → p < length s → get_or s p 0 ≡ x → put_in x s ≡ s
unfolding put_in
put_there x [] p z h e = absurd (omega arith)
put_there x (y ∷ ys) zero z h e = rw (le-ltb y x (omega arith), eq-eqb y x e)
put_there x (y ∷ ys) (suc p) z h e =
    rw (lt-ltb y x (z.below 0 (omega arith)), put_there x ys p (parted_tail x y ys p z) (omega arith) e)

pub put_new :
    (x : ℕ) (s : List ℕ) (p : ℕ) → Parted s x p → (p < length s → get_or s p 0 ≡ x → ⊥) → put_in x s ≡ take p s ++ x ∷ drop p s
unfolding put_in
put_new x [] zero z n = refl
put_new x [] (suc p) z n = absurd (omega (arith, z.within))
put_new x (y ∷ ys) zero z n = rw (le-ltb y x (z.above 0 (omega arith) (omega arith)), ne_eqb y x (n (omega arith)))
put_new x (y ∷ ys) (suc p) z n =
    rw (lt-ltb y x (z.below 0 (omega arith)), put_new x ys p (parted_tail x y ys p z) (λ h. n (omega arith)))

-- ---- `insert`
pub front_long : (o : List ℕ) (n more : ℕ) → HasRoom o n more → length (take n o) ≡ n
front_long o n more g = length-take-le n o (omega (arith, g.room))

module _ (o : List ℕ) (n x at : ℕ) (g : HasRoom o n 1) (z : Parted (take n o) x at) where
  long : length (take n o) ≡ n
  long = front_long o n 1 g

  pub place_within : at ≤ n
  place_within = omega (arith, z.within, long)

  pub kept : at < n → get_or o at 0 ≡ x → Holds o (put_in x (take n o)) o n
  kept h e =
      let same = put_there x (take n o) at z (omega (arith, long)) (get_or-take n o at 0 h ∙ e) in
      rw same (record { words = sym (take-append-drop n o); count = sym long; fits = omega (arith, g.room); rising = g.rising })

  -- it is at its place or nowhere
  absent : (at < n → get_or o at 0 ≡ x → ⊥) → contains (take n o) x ≡ false
  absent apart = go (ltb at n) refl
    where
      go : (b : Bool) → ltb at n ≡ b → contains (take n o) x ≡ false
      go true e =
          let h : at < n = ltb-true at n e in
          let other = ne_eqb (get_or o at 0) x (apart h) in
          sym (parted_here (take n o) x at z g.rising (omega (arith, long))) ∙ rw (get_or-take n o at 0 h) other
      go false e = sym (parted_end (take n o) x at z (omega (arith, long, ltb-false at n e, place_within)))

  pub placed : (at < n → get_or o at 0 ≡ x → ⊥) → (o' : List ℕ) → o' ≡ opened o at n x → Holds o (put_in x (take n o)) o' (n + 1)
  unfolding opened
  placed apart o' e =
      let here = put_new x (take n o) at z (λ h. rw (get_or-take n o at 0 (omega (arith, long))) (apart (omega (arith, long)))) in
      let front = take-take at n o place_within in
      let size = length-append (take at o) (x ∷ slice at n o) in
      let first = length-take-le at o (omega (arith, g.room, place_within)) in
      let rest = length-slice at n o (omega (arith, g.room)) in
      let up = ascending_insert (take n o) x at g.rising z (absent apart) in
      rw (here, front) (record {
        words = e ∙ rw (add-one n);
        count = omega (arith, place_within);
        fits = omega (arith, g.room);
        rising = rw (← front) up;
      })
