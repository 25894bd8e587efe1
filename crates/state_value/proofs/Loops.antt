-- Loops over the marks of one state or of two.
use mathlib.Core.Path.{◌≡◌, refl, sym, ◌∙◌}
use mathlib.Core.Bool.{Bool, true, false, ◌&&◌}
use mathlib.Core.Logic.{⊎_elim}
use mathlib.Core.List.{List}
use mathlib.Core.Option.{Option, some}
use Prim.Native.Nat.{ℕ, zero, suc, ◌+◌, ◌-◌, ◌≤◌, ◌<◌}
use native.Mathlib.Nat.{eq-or-lt_of_le}
use native.Mathlib.Numerals.{add-one}
use native.Mathlib.Omega.{arith}
use lib.ListN.{length, get_or, take, drop}
use borrow.Author.Tests.{lt-ltb, le-ltb}
use Rattle.std.specs.Prelude.{if◌then◌else◌}
use Rattle.rules.specs.State.{parsed, present, until_present, span}
use Rattle.state_marks.proofs.Mark.{present_of, used_of}
use Rattle.state_marks.specs.Lent.{FirstWhere}
use Rattle.state_marks.proofs.Marks.{present_at_lem, part_cons, part_none}
use Rattle.state_value.specs.Options.{place_below, Until, SpanEnd}

-- ---- the first place that is present in both

abbrev pub until : List ℕ → List ℕ → ℕ → ℕ → Option ℕ
until a b count i = until_present i (drop i (take count a)) (drop i (take count b))

-- a place that is used in one, or in the other
and_false : (x y : Bool) → (x ≡ true → y ≡ false) → (x && y) ≡ false
and_false true y f = f refl
and_false false y f = refl

module _ (a b : List ℕ) (count : ℕ) (la : count ≤ length a) (lb : count ≤ length b) where
  until_step : (i : ℕ) → i < count → until a b count i ≡ (if present (get_or a i 0) && present (get_or b i 0) then some i else until a b count (suc i))
  unfolding until_present
  until_step i h = rw (part_cons a count i h la, part_cons b count i h lb, add-one i)

  until_past : (d i : ℕ) → i + d ≤ count → ((k : ℕ) → i ≤ k → k < i + d → present (get_or a k 0) ≡ true → present (get_or b k 0) ≡ false)
      → until a b count i ≡ until a b count (i + d)
  until_past zero i h f = let z : i + zero ≡ i = omega arith in rw z
  until_past (suc d) i h f =
      let z : i + suc d ≡ suc i + d = omega arith in
      rw z (until_step i (omega arith) ∙ rw (and_false _ _ (f i (omega arith) (omega arith))) (until_past d (suc i) (omega arith) (λ k l m. f k (omega arith) (omega arith))))

  -- what `first_where` finds where it is told which places are present in the other
  pub until_found : (from r : ℕ) (says : ℕ → Bool → Type 0) → FirstWhere a says from count r
      → ((k : ℕ) (x : Bool) → says k x → x ≡ present (get_or b k 0)) → Until a b from count r
  unfolding until_present place_below
  until_found from r says f told =
      let z : from + (r - from) ≡ r = omega (arith, f.behind) in
      let past = until_past (r - from) from (omega (arith, f.within))
      (λ k l m p. sym (told k false (f.before k l (omega (arith, f.behind)) (present_at_lem a k (omega (arith, f.within)) ∙ p)))) in
      let same : until a b count from ≡ until a b count r = rw z at past in
      record {
        within = f.within;
        place = rw same (⊎_elim
            (λ (e : r ≡ count). rw (le-ltb r count (omega arith), part_none a count r (omega arith) la))
            (λ (h : r < count).
            rw (lt-ltb r count h) (sym (until_step r h ∙ rw (sym (present_at_lem a r (omega arith)) ∙ (f.here h).0, ← told r true (f.here h).1))))
            (eq-or-lt_of_le f.within));
      }

-- ---- the present places from one on

pub record Spanning (m : List ℕ) (from count i : ℕ) : Type 0 where
  pub within : i ≤ count
  pub same : i + span (drop i (take count m)) ≡ from + span (drop from (take count m))

pub spanning_first : (m : List ℕ) (from count : ℕ) → from ≤ count → Spanning m from count from
spanning_first m from count h = record { within = h; same = refl }

module _ (m : List ℕ) (from count i : ℕ) (s : Spanning m from count i) (l : count ≤ length m) where
  pub spanning_next : i < count → (x : Bool) → x ≡ parsed (get_or m i 0) → x ≡ false → Spanning m from count (i + 1)
  unfolding span
  spanning_next h x e g =
      let z : span (drop i (take count m)) ≡ suc (span (drop (i + 1) (take count m))) =
      rw (part_cons m count i h l, present_of (get_or m i 0) x e g) in
      record { within = omega arith; same = omega (arith, s.same) }

  pub spanning_used : i < count → (x : Bool) → x ≡ parsed (get_or m i 0) → x ≡ true → SpanEnd m from count i
  unfolding span
  spanning_used h x e g =
      let z : span (drop i (take count m)) ≡ 0 = rw (part_cons m count i h l, used_of (get_or m i 0) x e g) in
      record { within = omega arith; place = omega (arith, s.same) }

  pub spanning_last : count ≤ i → SpanEnd m from count count
  unfolding span
  spanning_last h =
      let z : span (drop i (take count m)) ≡ 0 = rw (part_none m count i h l) in
      record { within = omega arith; place = omega (arith, s.same, s.within) }
