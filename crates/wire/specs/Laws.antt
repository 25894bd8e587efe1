-- Laws of numbers and tables, each over the width.
use Rattle.std.specs.Prelude.{◌≡◌, refl, Bool, true, false, ◌&&◌, List, [], ◌∷◌, ◌++◌, length, get_or, take, drop}
use Rattle.std.proofs.Common.{◌∙◌, ap, mul-add, mul-one, mul_assoc, mul-le-mul_left, le_refl, eq-or-lt_of_le, add-one, lit<, drop-cons, drop-drop, get_or-drop, take-add, length-take-le}
use Rattle.std.proofs.Math.Logic.{⊎_elim}
use Rattle.std.proofs.Math.Bool.{and-eq-true_iff}
use Prim.Native.Nat.{ℕ, zero, suc, ◌+◌, ◌-◌, ◌*◌, ◌^◌, ◌≤◌, ◌<◌}
use Rattle.std.proofs.Math.Nat.{mul-le-mul_right, pow-succ', le_trans}
use native.Mathlib.Omega.{arith}
use Rattle.std.proofs.Math.Dec.{leb, eqb}
use Rattle.std.proofs.Math.ListN.{length-drop}
use borrow.Author.Tests.{leb-true, eqb-true, le-leb}
use Rattle.wire.specs.Wire.{le, number_at, Width, offset, area_start, area, never_fall, table_good, entry_of, HasEntry}

-- ---- numbers

le_append : (a b : List ℕ) → le (a ++ b) ≡ le a + 256 ^ length a * le b
unfolding le
le_append [] b = omega arith
le_append (x ∷ a) b = rw (pow-succ' 256 (length a), le_append a b) (omega (arith, mul_assoc 256 (256 ^ length a) (le b)))

-- a number in two parts, the lower first
pub number_split : (v w : ℕ) (b : List ℕ) (i : ℕ) → i + v ≤ length b → number_at (v + w) b i ≡ number_at v b i + 256 ^ v * number_at w b (i + v)
unfolding number_at
number_split v w b i h =
    let long : length (take v (drop i b)) ≡ v = length-take-le v (drop i b) (omega (arith, length-drop i b)) in
    ap le (take-add v w (drop i b)) ∙ le_append (take v (drop i b)) (take w (drop v (drop i b))) ∙ rw (long, drop-drop v i b)

number_one : (b : List ℕ) (i : ℕ) → i < length b → number_at 1 b i ≡ get_or b i 0
unfolding number_at le
number_one b i h = rw (drop-cons b i 0 h) (omega arith)

pub number_two :
    (b : List ℕ) (i x y : ℕ)
    → i + 2 ≤ length b
    → x ≡ get_or b i 0
    → y ≡ get_or b (i + 1) 0
    → x + 256 * y ≡ number_at 2 b i
number_two b i x y h p q =
    omega (arith, number_split 1 1 b i (omega arith), number_one b i (omega arith), number_one b (i + 1) (omega arith))

le_bound : (w : ℕ) (b : List ℕ) → ((k : ℕ) → get_or b k 0 < 256) → le (take w b) < 256 ^ w
unfolding le
le_bound zero b small = lit< tt
le_bound (suc w) [] small = omega (arith, pow-succ' 256 w, le_bound w [] small)
le_bound (suc w) (x ∷ b) small = omega (arith, pow-succ' 256 w, small 0, le_bound w b (λ k. small (suc k)))

pub number_bound : (w : ℕ) (b : List ℕ) (i : ℕ) → ((k : ℕ) → get_or b k 0 < 256) → number_at w b i < 256 ^ w
unfolding number_at
number_bound w b i small = le_bound w (drop i b) (λ k. rw (get_or-drop i b k 0) (small (i + k)))

-- ---- the places of the offsets

pub wider : {w : ℕ} → Width w → (w ≡ 2 → ⊥) → w ≡ 4
wider width other = ⊎_elim (λ e. absurd (other e)) (λ e. e) width

-- offset k ends where the area of a table of k entries would start
pub offset_end : (w k : ℕ) → 2 + w * k + w ≡ area_start w k
unfolding area_start
offset_end w k = omega (arith, mul-add w k 1, mul-one w)

pub start_rises : (w k n : ℕ) → k ≤ n → area_start w k ≤ area_start w n
unfolding area_start
start_rises w k n h = let l : k + 1 ≤ n + 1 = omega arith in omega (arith, mul-le-mul_left w l)

module _ (w n : ℕ) (width : Width w) where
  pub start_least : n + 3 ≤ area_start w n
  unfolding area_start
  start_least =
      let l : 1 ≤ w = ⊎_elim (λ e. omega arith) (λ e. omega arith) width in
      omega (arith, mul-le-mul_right (n + 1) l)

  pub start_most : area_start w n ≤ 4 * n + 6
  unfolding area_start
  start_most =
      let l : w ≤ 4 = ⊎_elim (λ e. omega arith) (λ e. omega arith) width in
      omega (arith, mul-le-mul_right (n + 1) l)

-- ---- offsets that never fall

module _ (w : ℕ) (b : List ℕ) where
  pub fewer_rise : (n k : ℕ) → k ≤ n → never_fall w b n ≡ true → never_fall w b k ≡ true
  unfolding never_fall
  fewer_rise zero k h e = let z : k ≡ 0 = omega arith in rw z
  fewer_rise (suc n) k h e =
      ⊎_elim
      (λ same. rw same e)
      (λ less. fewer_rise n k (omega arith) ((and-eq-true_iff (never_fall w b n) _).0 e).0)
      (eq-or-lt_of_le h)

  to_last : (n j : ℕ) → j ≤ n → never_fall w b n ≡ true → offset w b j ≤ offset w b n
  unfolding never_fall
  to_last zero j h e = let z : j ≡ 0 = omega arith in rw z (le_refl _)
  to_last (suc n) j h e =
      let p = (and-eq-true_iff (never_fall w b n) (leb (offset w b n) (offset w b (suc n)))).0 e in
      ⊎_elim
      (λ same. rw same (le_refl _))
      (λ less. le_trans (to_last n j (omega arith) p.0) (leb-true (offset w b n) (offset w b (suc n)) p.1))
      (eq-or-lt_of_le h)

  pub rises_more : (k : ℕ) → never_fall w b k ≡ true → offset w b k ≤ offset w b (k + 1) → never_fall w b (k + 1) ≡ true
  unfolding never_fall
  rises_more k e h =
      let l : offset w b k ≤ offset w b (suc k) = rw (add-one k) at h in
      rw (add-one k, e, le-leb (offset w b k) (offset w b (suc k)) l)

  pub fallen : (n k : ℕ) → k < n → offset w b (k + 1) < offset w b k → never_fall w b n ≡ false
  fallen n k h l = go (never_fall w b n) refl
    where
      go : (t : Bool) → never_fall w b n ≡ t → t ≡ false
      go false e = refl
      go true e = absurd (omega (arith, to_last (k + 1) k (omega arith) (fewer_rise n (k + 1) (omega arith) e)))

-- ---- good tables

pub record GoodTable (w n : ℕ) (b : List ℕ) : Type 0 where
  pub long : area_start w n ≤ length b
  pub first : offset w b 0 ≡ 0
  pub rising : never_fall w b n ≡ true
  pub last : area_start w n + offset w b n ≡ length b

module _ (w n : ℕ) (b : List ℕ) (e : table_good w n b ≡ true) where
  pub good_table : GoodTable w n b
  unfolding table_good area
  good_table =
      let start = leb (area_start w n) (length b) in
      let first = eqb (offset w b 0) 0 in
      let last = eqb (offset w b n) (length (drop (area_start w n) b)) in
      let p = (and-eq-true_iff (start && first && never_fall w b n) last).0 e in
      let q = (and-eq-true_iff (start && first) (never_fall w b n)).0 p.0 in
      let r = (and-eq-true_iff start first).0 q.0 in
      let long = leb-true (area_start w n) (length b) r.0 in
      record {
        long = long;
        first = eqb-true (offset w b 0) 0 r.1;
        rising = q.1;
        last = omega (arith, eqb-true (offset w b n) (length (drop (area_start w n) b)) p.1, length-drop (area_start w n) b);
      }

  -- offsets never fall
  pub offset_rises : (j k : ℕ) → j ≤ k → k ≤ n → offset w b j ≤ offset w b k
  offset_rises j k h l = to_last w b k j h (fewer_rise w b n k l good_table.rising)

-- both offsets of an entry are there, they do not fall, and the entry lies in the area
pub record Placed (w n : ℕ) (b : List ℕ) (k : ℕ) : Type 0 where
  pub area : area_start w n ≤ length b
  pub first : area_start w k ≤ length b
  pub second : area_start w (k + 1) ≤ length b
  pub rising : offset w b k ≤ offset w b (k + 1)
  pub inside : area_start w n + offset w b (k + 1) ≤ length b

pub placed : {w n : ℕ} {b : List ℕ} {k : ℕ} → HasEntry w n b k → Placed w n b k
placed {w} {n} {b} {k} h =
    let g = good_table w n b h.good in
    let below = h.below in
    record {
      area = g.long;
      first = omega (arith, start_rises w k n (omega arith));
      second = omega (arith, start_rises w (k + 1) n (omega arith));
      rising = offset_rises w n b h.good k (k + 1) (omega arith) (omega arith);
      inside = omega (arith, offset_rises w n b h.good (k + 1) n (omega arith) (le_refl n));
    }

-- an entry, as a part of the whole
pub entry_part :
    (w n : ℕ) (b : List ℕ) (k start x y : ℕ)
    → start ≡ area_start w n
    → x ≡ offset w b k
    → y ≡ offset w b (k + 1)
    → take (start + y - (start + x)) (drop (start + x) b) ≡ entry_of w n b k
unfolding entry_of area
entry_part w n b k start x y e p q =
    let size : start + y - (start + x) ≡ y - x = omega arith in
    rw (size, e, p, q, drop-drop (offset w b k) (area_start w n) b)

pub entry_length : {w n : ℕ} {b : List ℕ} {k : ℕ} → HasEntry w n b k → length (entry_of w n b k) ≡ offset w b (k + 1) - offset w b k
unfolding entry_of area
entry_length {w} {n} {b} {k} h =
    let p = placed h in
    let l : offset w b (k + 1) - offset w b k ≤ length (drop (offset w b k) (drop (area_start w n) b)) =
    omega (arith, length-drop (offset w b k) (drop (area_start w n) b), length-drop (area_start w n) b) in
    length-take-le _ _ l
