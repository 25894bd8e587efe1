-- Loops over marks: each invariant says that what is still to be looked at gives what the whole gives.
use mathlib.Core.Path.{◌≡◌, refl, sym, ap, subst, ◌∙◌}
use mathlib.Core.Bool.{and-eq-true_iff, Bool, true, false, false≢true, not, xor, beq, ◌&&◌}
use mathlib.Core.List.{List, [], ◌∷◌, ◌++◌, append_assoc}
use mathlib.Core.Option.{some}
use mathlib.Core.Logic.{◌⊎◌, inl, inr, ⊎_elim}
use Prim.Native.Nat.{ℕ, zero, suc, ◌+◌, ◌-◌, ◌≤◌, ◌<◌, suc-le-suc}
use native.Mathlib.Nat.{eq-or-lt_of_le, not-suc-le-zero, le_of_suc-le-suc}
use native.Mathlib.Numerals.{add-one}
use native.Mathlib.Omega.{arith}
use lib.Dec.{ltb, eqb}
use lib.ListN.{length, get_or, take, drop, set, drop_of_length-le, take-append-drop}
use lib.Seq.{drop-cons, get_or-take, length-take-le, set_at, get_or_at}
use borrow.Author.Tests.{eqb-true, ne_eqb, ltb-true, ltb-false}
use Rattle.std.specs.Prelude.{if◌then◌else◌, Some, None}
use Rattle.std.specs.List.{list_all}
use Rattle.std.proofs.lemmas.Bool.{false_from_ne_true}
use Rattle.rules.specs.Base.{all}
use Rattle.rules.specs.Tree.{zeros}
use Rattle.rules.specs.State.{parsed, present, present_at, present_from, count_present, pick_from, conflicts}
use Rattle.rules.proofs.Places.{conflicts_length}
use Rattle.state_marks.specs.Lent.{first_or, NoneWhere, FirstWhere, pick_of, conflict_mark, Alike}

pub present_at_lem : (m : List ℕ) (i : ℕ) → i < length m → present_at m i ≡ present (get_or m i 0)
unfolding present_at
present_at_lem [] i h = absurd (not-suc-le-zero h)
present_at_lem (x ∷ m) zero h = refl
present_at_lem (x ∷ m) (suc i) h = present_at_lem m i (le_of_suc-le-suc h)

-- ---- the first that is present

module _ (m : List ℕ) (end i : ℕ) (h : i < end) (l : end ≤ length m) where
  pub from_hit : present (get_or m i 0) ≡ true → present_from m (end - i) i ≡ i ∷ present_from m (end - (i + 1)) (i + 1)
  unfolding present_from
  from_hit e =
      let z : end - i ≡ suc (end - suc i) = omega arith in
      rw (z, add-one i, present_at_lem m i (omega arith), e)

pub from_none : (m : List ℕ) (end i : ℕ) → end ≤ i → present_from m (end - i) i ≡ []
unfolding present_from
from_none m end i h = let z : end - i ≡ 0 = omega arith in rw z

-- places that are used add nothing
from_past : (m : List ℕ) (d n i : ℕ) → ((k : ℕ) → i ≤ k → k < i + d → present_at m k ≡ true → ⊥) → present_from m (d + n) i ≡ present_from m n (i + d)
unfolding present_from
from_past m zero n i f =
    let y : zero + n ≡ n = omega arith in
    let z : i + zero ≡ i = omega arith in
    rw (y, z)
from_past m (suc d) n i f =
    let y : suc d + n ≡ suc (d + n) = omega arith in
    let z : i + suc d ≡ suc i + d = omega arith in
    rw (y, z, false_from_ne_true (present_at m i) (f i (omega arith) (omega arith)))
    (from_past m d n (suc i) (λ k l b. f k (omega arith) (omega arith)))

-- what `first_where` finds by a test that nothing fails
pub first_of_all : (m : List ℕ) (from end r : ℕ) → end ≤ length m → (says : ℕ → Bool → Type 0) → FirstWhere m says from end r
    → ((k : ℕ) → says k false → ⊥) → r ≡ first_or end (present_from m (end - from) from)
unfolding first_or
first_of_all m from end r l says f n =
    let y : end - from ≡ r - from + (end - r) = omega (arith, f.behind, f.within) in
    let z : from + (r - from) ≡ r = omega (arith, f.behind) in
    let past = from_past m (r - from) (end - r) from (λ k a b p. n k (f.before k a (omega (arith, f.behind)) p)) in
    let same : present_from m (end - from) from ≡ present_from m (end - r) r = rw y (rw z at past) in
    rw same
    (⊎_elim
    (λ (e : r ≡ end). rw (e, from_none m end end (omega arith)))
    (λ (h : r < end). rw (from_hit m end r h l (sym (present_at_lem m r (omega arith)) ∙ (f.here h).0)))
    (eq-or-lt_of_le f.within))

-- the loop of `first_where`
module _ (m : List ℕ) (says : ℕ → Bool → Type 0) (from i : ℕ) (z : NoneWhere m says from i) where
  none_next : (present_at m i ≡ true → says i false) → NoneWhere m says from (i + 1)
  none_next f k a b p = ⊎_elim
      (λ (e : k ≡ i). rw e (f (rw e at p)))
      (λ (l : k < i). z k a l p)
      (eq-or-lt_of_le (omega arith))

  module _ (end : ℕ) (h : i < end) (l : end ≤ length m) (x : Bool) (e : x ≡ present (get_or m i 0)) where
    at_place : present_at m i ≡ x
    at_place = present_at_lem m i (omega arith) ∙ sym e

    pub where_used : x ≡ false → NoneWhere m says from (i + 1)
    where_used g = none_next (λ p. absurd (false≢true (sym (at_place ∙ g) ∙ p)))

    pub where_fails : (r : Bool) → says i r → r ≡ false → NoneWhere m says from (i + 1)
    where_fails r s g = none_next (λ p. subst (says i) g s)

    pub where_hit : from ≤ i → x ≡ true → (r : Bool) → says i r → r ≡ true → FirstWhere m says from end i
    where_hit o g r s q = record {
      behind = o;
      within = omega arith;
      before = z;
      here = λ _. (at_place ∙ g, subst (says i) q s);
    }

-- what the search finds: a present place, before which none is
pub record FirstAt (m : List ℕ) (k a r : ℕ) : Type 0 where
  pub from : a ≤ r
  pub below : r < a + k
  pub here : present_at m r ≡ true
  pub rest : present_from m k a ≡ r ∷ present_from m (a + k - suc r) (suc r)

hit_case : (m : List ℕ) (k a : ℕ) → (present_from m k a ≡ []) ⊎ ((r : ℕ) × FirstAt m k a r)
unfolding present_from
hit_case m zero a = inl refl
hit_case m (suc k) a = go (present_at m a) refl (hit_case m k (suc a))
  where
    go : (b : Bool) → present_at m a ≡ b → (present_from m k (suc a) ≡ []) ⊎ ((r : ℕ) × FirstAt m k (suc a) r)
        → (present_from m (suc k) a ≡ []) ⊎ ((r : ℕ) × FirstAt m (suc k) a r)
    go true e later =
        let z : a + suc k - suc a ≡ k = omega arith in
        inr (a, record { from = omega arith; below = omega arith; here = e; rest = rw (e, z) })
    go false e later = ⊎_elim
        (λ (n : present_from m k (suc a) ≡ []). inl (rw e n))
        (λ (h : (r : ℕ) × FirstAt m k (suc a) r).
        let z : a + suc k ≡ suc a + k = omega arith in
        inr (h.0, record { from = omega (arith, h.1.from); below = omega (arith, h.1.below); here = h.1.here; rest = rw (e, z) h.1.rest }))
        later

module _ (m : List ℕ) (from end r : ℕ) (o : from ≤ end) (e : r ≡ first_or end (present_from m (end - from) from)) where
  pub first_hit : r < end → FirstAt m (end - from) from r
  unfolding first_or
  first_hit h = ⊎_elim
      (λ n. absurd (omega (arith, e ∙ ap (first_or end) n)))
      (λ f. let z : f.0 ≡ r = sym (e ∙ ap (first_or end) f.1.rest) in subst (FirstAt m (end - from) from) z f.1)
      (hit_case m (end - from) from)

  pub first_within : r ≤ end
  unfolding first_or
  first_within = ⊎_elim
      (λ n. omega (arith, e ∙ ap (first_or end) n))
      (λ f. omega (arith, e ∙ ap (first_or end) f.1.rest, f.1.below))
      (hit_case m (end - from) from)

  pub first_none : end ≤ r → present_from m (end - from) from ≡ []
  unfolding first_or
  first_none h = ⊎_elim
      (λ n. n)
      (λ f. absurd (omega (arith, e ∙ ap (first_or end) f.1.rest, f.1.below)))
      (hit_case m (end - from) from)

-- of the first n marks and of all the same places are present
at_take : (m : List ℕ) (n i : ℕ) → i < n → present_at (take n m) i ≡ present_at m i
unfolding present_at
at_take m zero i h = absurd (not-suc-le-zero h)
at_take [] (suc n) i h = refl
at_take (x ∷ m) (suc n) zero h = refl
at_take (x ∷ m) (suc n) (suc i) h = at_take m n i (le_of_suc-le-suc h)

pub from_take : (m : List ℕ) (n k a : ℕ) → a + k ≤ n → present_from (take n m) k a ≡ present_from m k a
unfolding present_from
from_take m n zero a h = refl
from_take m n (suc k) a h = rw (at_take m n a (omega arith), from_take m n k (suc a) (omega arith))

-- ---- how many are present

pub record Counting (m : List ℕ) (from to count i : ℕ) : Type 0 where
  pub within : i ≤ to
  pub few : count ≤ i
  pub same : count + count_present (take (to - i) (drop i m)) ≡ count_present (take (to - from) (drop from m))

pub counting_first : (m : List ℕ) (from to : ℕ) → from ≤ to → Counting m from to 0 from
counting_first m from to h = record { within = h; few = omega arith; same = omega arith }

module _ (m : List ℕ) (i to : ℕ) (h : i < to) (l : to ≤ length m) where
  count_part : take (to - i) (drop i m) ≡ get_or m i 0 ∷ take (to - (i + 1)) (drop (i + 1) m)
  count_part =
      let z : to - i ≡ suc (to - suc i) = omega arith in
      rw (z, add-one i, drop-cons m i 0 (omega arith))

  pub count_present_lem : present (get_or m i 0) ≡ true
      → count_present (take (to - i) (drop i m)) ≡ suc (count_present (take (to - (i + 1)) (drop (i + 1) m)))
  unfolding count_present
  count_present_lem e = ap count_present count_part ∙ rw e

  pub count_used : present (get_or m i 0) ≡ false → count_present (take (to - i) (drop i m)) ≡ count_present (take (to - (i + 1)) (drop (i + 1) m))
  unfolding count_present
  count_used e = ap count_present count_part ∙ rw e

module _ (m : List ℕ) (from to count i : ℕ) (s : Counting m from to count i) (l : to ≤ length m) where
  pub counting_more : i < to → (x : Bool) → x ≡ present (get_or m i 0) → x ≡ true → (n : ℕ) → n ≡ count + 1 → Counting m from to n (i + 1)
  counting_more h x e g n z = record {
    within = omega arith;
    few = omega (arith, s.few);
    same = omega (arith, s.same, count_present_lem m i to h l (sym e ∙ g));
  }

  pub counting_next : i < to → (x : Bool) → x ≡ present (get_or m i 0) → x ≡ false → (n : ℕ) → n ≡ count → Counting m from to n (i + 1)
  counting_next h x e g n z = record {
    within = omega arith;
    few = omega (arith, s.few);
    same = omega (arith, s.same, count_used m i to h l (sym e ∙ g));
  }

  pub counting_last : to ≤ i → count ≡ count_present (take (to - from) (drop from m))
  unfolding count_present
  counting_last h =
      let z : to - i ≡ 0 = omega arith in
      let none : count_present (take (to - i) (drop i m)) ≡ 0 = rw z in
      omega (arith, s.same)

-- ---- the first place where two differ

-- as the code tests it
xor_is : (x y : Bool) → xor x y ≡ not (beq x y)
unfolding xor
xor_is true true = refl
xor_is true false = refl
xor_is false true = refl
xor_is false false = refl

pub record Picking (a b : List ℕ) (count i : ℕ) : Type 0 where
  pub within : i ≤ count
  pub same : pick_from i (drop i (take count a)) (drop i (take count b)) ≡ pick_from 0 (take count a) (take count b)

pub picking_first : (a b : List ℕ) (count : ℕ) → Picking a b count 0
picking_first a b count = record { within = omega arith; same = refl }

-- what is left of the first n is one element and the rest
pub part_cons : (l : List ℕ) (n i : ℕ) → i < n → n ≤ length l → drop i (take n l) ≡ get_or l i 0 ∷ drop (i + 1) (take n l)
part_cons l n i h r =
    let long : length (take n l) ≡ n = length-take-le n l r in
    rw (add-one i, drop-cons (take n l) i 0 (omega arith), get_or-take n l i 0)

pub part_none : (l : List ℕ) (n i : ℕ) → n ≤ i → n ≤ length l → drop i (take n l) ≡ []
part_none l n i h r =
    let long : length (take n l) ≡ n = length-take-le n l r in
    let out : length (take n l) ≤ i = omega arith in
    drop_of_length-le (take n l) out

module _ (a b : List ℕ) (count i : ℕ) (s : Picking a b count i) (la : count ≤ length a) (lb : count ≤ length b) where
  pick_step : i < count
      → pick_from 0 (take count a) (take count b)
      ≡ (if xor (parsed (get_or a i 0)) (parsed (get_or b i 0))
      then record { first = parsed (get_or a i 0); place = some i }
      else pick_from (i + 1) (drop (i + 1) (take count a)) (drop (i + 1) (take count b)))
  unfolding pick_from
  pick_step h = sym s.same ∙ rw (part_cons a count i h la, part_cons b count i h lb, add-one i)

  pub picking_hit : i < count → (x y : Bool) → x ≡ parsed (get_or a i 0) → y ≡ parsed (get_or b i 0) → not (beq x y) ≡ true
      → pick_of (record { first = x; place = Some i }) ≡ pick_from 0 (take count a) (take count b)
  unfolding pick_of
  picking_hit h x y p q t = sym (pick_step h ∙ rw (← p, ← q, xor_is x y, t))

  pub picking_next : i < count → (x y : Bool) → x ≡ parsed (get_or a i 0) → y ≡ parsed (get_or b i 0) → not (beq x y) ≡ false
      → Picking a b count (i + 1)
  picking_next h x y p q t = record { within = omega arith; same = sym (pick_step h ∙ rw (← p, ← q, xor_is x y, t)) }

  pub picking_last : count ≤ i → pick_of (record { first = true; place = None }) ≡ pick_from 0 (take count a) (take count b)
  unfolding pick_from pick_of
  picking_last h = sym (sym s.same ∙ rw (part_none a count i h la))

differ_same : (x : Bool) → not (beq x x) ≡ false
differ_same true = refl
differ_same false = refl

-- a block: unless others were found, the marks passed are the same
pub record Blocked (a b : List ℕ) (from : ℕ) (same : Bool) (k : ℕ) : Type 0 where
  pub alike : same ≡ true → Alike a b from (from + k)

pub blocked_first : (a b : List ℕ) (from : ℕ) → Blocked a b from true 0
blocked_first a b from = record { alike = λ _ j l h. absurd (omega arith) }

pub blocked_next : (a b : List ℕ) (from : ℕ) (same : Bool) (k : ℕ) → Blocked a b from same k
    → Blocked a b from (same && eqb (get_or a (from + k) 0) (get_or b (from + k) 0)) (k + 1)
blocked_next a b from same k s = record {
  alike = λ z j l q.
      let both = (and-eq-true_iff same (eqb (get_or a (from + k) 0) (get_or b (from + k) 0))).0 z in
      ⊎_elim
      (λ (e : j ≡ from + k). subst (λ (i : ℕ). get_or a i 0 ≡ get_or b i 0) (sym e) (eqb-true _ _ both.1))
      (λ (e : j < from + k). s.alike both.0 j l e)
      (eq-or-lt_of_le (omega arith));
}

-- blocks: the marks passed are the same
pub record Blocks (a b : List ℕ) (count i : ℕ) : Type 0 where
  pub within : i ≤ count
  pub alike : Alike a b 0 i

pub blocks_first : (a b : List ℕ) (count : ℕ) → Blocks a b count 0
blocks_first a b count = record { within = omega arith; alike = λ k l h. absurd (omega arith) }

pub blocks_next : (a b : List ℕ) (count i : ℕ) → Blocks a b count i → i + 16 ≤ count → Alike a b i (i + 16) → Blocks a b count (i + 16)
blocks_next a b count i s h f = record { within = h; alike = λ k l r. go k r (ltb k i) refl }
  where
    go : (k : ℕ) → k < i + 16 → (c : Bool) → ltb k i ≡ c → get_or a k 0 ≡ get_or b k 0
    go k r true c = s.alike k (omega arith) (ltb-true k i c)
    go k r false c = f k (ltb-false k i c) r

-- marks that are the same are passed over
pub picking_from : (a b : List ℕ) (count i : ℕ) → count ≤ length a → count ≤ length b → i ≤ count → Alike a b 0 i → Picking a b count i
picking_from a b count zero la lb h f = picking_first a b count
picking_from a b count (suc i) la lb h f =
    let s = picking_from a b count i la lb (omega arith) (λ k l r. f k l (omega arith)) in
    let same : get_or a i 0 ≡ get_or b i 0 = f i (omega arith) (omega arith) in
    rw (← add-one i)
    (picking_next a b count i s la lb (omega arith) (parsed (get_or a i 0)) (parsed (get_or b i 0)) refl refl
    (rw same (differ_same (parsed (get_or b i 0)))))

-- ---- conflicts

pub record Saving (m₀ l : List ℕ) (w count : ℕ) (m : List ℕ) (i : ℕ) : Type 0 where
  pub within : i ≤ count
  pub room : count ≤ length m₀
  pub same : m ≡ conflicts w (take i m₀) (take i l) ++ drop i m₀

-- no mark is both present and parsed
not_both : (x : ℕ) → present x && parsed x ≡ false
unfolding present
not_both x = go (parsed x)
  where
    go : (b : Bool) → not b && b ≡ false
    go true = refl
    go false = refl

-- where the marks are the same nothing is in conflict
alike_kept : (w : ℕ) (m l : List ℕ) (i : ℕ) → i ≤ length m → i ≤ length l → Alike m l 0 i → conflicts w (take i m) (take i l) ≡ take i m
unfolding conflicts
alike_kept w m l zero h k f = refl
alike_kept w [] l (suc i) h k f = absurd (not-suc-le-zero h)
alike_kept w (x ∷ m) [] (suc i) h k f = absurd (not-suc-le-zero k)
alike_kept w (x ∷ m) (y ∷ l) (suc i) h k f =
    let same : x ≡ y = f 0 (omega arith) (omega arith) in
    let rest = alike_kept w m l i (le_of_suc-le-suc h) (le_of_suc-le-suc k) (λ j a b. f (suc j) (omega arith) (suc-le-suc b)) in
    rw (← same, not_both x, rest)

pub saving_from : (m l : List ℕ) (w count i : ℕ) → count ≤ length m → count ≤ length l → i ≤ count → Alike m l 0 i → Saving m l w count m i
saving_from m l w count i h k b f = record {
  within = b;
  room = h;
  same = sym (ap (λ (z : List ℕ). z ++ drop i m) (alike_kept w m l i (omega arith) (omega arith) f) ∙ take-append-drop i m);
}

conflicts_more : (w : ℕ) (m l : List ℕ) (i : ℕ) → i < length m → i < length l
    → conflicts w (take (suc i) m) (take (suc i) l) ≡ conflicts w (take i m) (take i l) ++ (conflict_mark w (get_or m i 0) (get_or l i 0) ∷ [])
unfolding conflicts conflict_mark
conflicts_more w [] l i h k = absurd (not-suc-le-zero h)
conflicts_more w (x ∷ m) [] i h k = absurd (not-suc-le-zero k)
conflicts_more w (x ∷ m) (y ∷ l) zero h k = refl
conflicts_more w (x ∷ m) (y ∷ l) (suc i) h k = rw (conflicts_more w m l i (le_of_suc-le-suc h) (le_of_suc-le-suc k))

module _ (m₀ l : List ℕ) (w count : ℕ) (m : List ℕ) (i : ℕ) (s : Saving m₀ l w count m i) (k : count ≤ length l) where
  saved_long : i < count → length (conflicts w (take i m₀) (take i l)) ≡ i
  saved_long h = conflicts_length w (take i m₀) (take i l) ∙ length-take-le i m₀ (omega (arith, s.room))

  -- the marks from here on are as they were
  pub saving_here : i < count → get_or m i 0 ≡ get_or m₀ i 0
  saving_here h =
      let z : length (conflicts w (take i m₀) (take i l)) ≡ i = saved_long h in
      rw (s.same, drop-cons m₀ i 0 (omega (arith, s.room))) (get_or_at (conflicts w (take i m₀) (take i l)) (get_or m₀ i 0) (drop (suc i) m₀) 0 i z)

  pub saving_next : i < count → (x : ℕ) → x ≡ conflict_mark w (get_or m i 0) (get_or l i 0) → Saving m₀ l w count (set m i x) (i + 1)
  saving_next h x e =
      let z : length (conflicts w (take i m₀) (take i l)) ≡ i = saved_long h in
      let b : i < length m₀ = omega (arith, s.room) in
      let f : x ≡ conflict_mark w (get_or m₀ i 0) (get_or l i 0) = e ∙ ap (λ (v : ℕ). conflict_mark w v (get_or l i 0)) (saving_here h) in
      record {
        within = omega arith;
        room = s.room;
        same =
            rw (
              s.same,
              drop-cons m₀ i 0 b,
              set_at (conflicts w (take i m₀) (take i l)) (get_or m₀ i 0) (drop (suc i) m₀) x i z,
              add-one i,
              conflicts_more w m₀ l i b (omega arith),
              append_assoc,
              f,
            );
      }

  pub saving_last : count ≤ i → m ≡ conflicts w (take count m₀) (take count l) ++ drop count m₀
  saving_last h = let z : i ≡ count = omega (arith, s.within) in s.same ∙ rw z

-- ---- a test of all

-- as the library has it
pub all_is : (p : ℕ → Bool) (l : List ℕ) → list_all p l ≡ all p l
unfolding all
all_is p [] = refl
all_is p (x ∷ l) = ap (λ (b : Bool). p x && b) (all_is p l)

pub zeros_is : (l : List ℕ) → list_all (λ m. eqb m 0) l ≡ zeros l
unfolding zeros all
zeros_is [] = refl
zeros_is (zero ∷ l) = zeros_is l
zeros_is (suc x ∷ l) = rw (ne_eqb (suc x) 0 (omega arith), ne_eqb 0 (suc x) (omega arith))

-- ---- the same by a loop: what is still to be tested gives what the whole gives
module _ (p : ℕ → Bool) (l : List ℕ) (i : ℕ) where
  pub testing_fails : i < length l → all p l ≡ all p (drop i l) → p (get_or l i 0) ≡ false → false ≡ all p l
  unfolding all
  testing_fails h e f = sym (e ∙ rw (drop-cons l i 0 h, f))

  pub testing_next : i < length l → all p l ≡ all p (drop i l) → p (get_or l i 0) ≡ true → all p l ≡ all p (drop (i + 1) l)
  unfolding all
  testing_next h e f = e ∙ rw (add-one i, drop-cons l i 0 h, f)

  pub testing_last : length l ≤ i → all p l ≡ all p (drop i l) → true ≡ all p l
  unfolding all
  testing_last h e = sym (e ∙ rw (drop_of_length-le l h))

pub zero_test : (x : ℕ) → eqb x 0 ≡ eqb 0 x
zero_test zero = refl
zero_test (suc x) = rw (ne_eqb (suc x) 0 (omega arith), ne_eqb 0 (suc x) (omega arith))

-- and with no way out of the loop
module _ (p : ℕ → Bool) (l : List ℕ) (i : ℕ) (z : Bool) (e : all p l ≡ (z && all p (drop i l))) where
  pub gathering_next : i < length l → (b : Bool) → b ≡ p (get_or l i 0) → all p l ≡ ((z && b) && all p (drop (i + 1) l))
  unfolding all
  gathering_next h b f = e ∙ rw (add-one i, drop-cons l i 0 h, f) (go z)
    where
      go : (z : Bool) → (z && (p (get_or l i 0) && all p (drop (suc i) l))) ≡ ((z && p (get_or l i 0)) && all p (drop (suc i) l))
      go true = refl
      go false = refl

  pub gathering_last : length l ≤ i → z ≡ all p l
  unfolding all
  gathering_last h = sym (e ∙ rw (drop_of_length-le l h) (go z))
    where
      go : (z : Bool) → (z && true) ≡ z
      go true = refl
      go false = refl

-- ---- one mark of `conflicts`, by the answers of `is_present` and `is_parsed`

module _ (w m l : ℕ) (x : Bool) (e : x ≡ present m) where
  pub conflict_used : x ≡ false → m ≡ conflict_mark w m l
  unfolding conflict_mark
  conflict_used h = rw (← e, h)

  module _ (h : x ≡ true) (y : Bool) (f : y ≡ parsed l) where
    pub conflict_new : y ≡ true → 2 + w ≡ conflict_mark w m l
    unfolding conflict_mark
    conflict_new k = rw (← e, h, ← f, k)

    pub conflict_none : y ≡ false → m ≡ conflict_mark w m l
    unfolding conflict_mark
    conflict_none k = rw (← e, h, ← f, k)
