-- Lists of letters: which can be looked up in, the halves of one in rising order, and a letter put into it.
use mathlib.Core.Path.{◌≡◌, refl, sym, ◌∙◌, ap}
use mathlib.Core.Bool.{Bool, true, false, ◌||◌, false≢true}
use mathlib.Core.Logic.{◌⊎◌, inl, inr, ⊎_elim}
use mathlib.Core.List.{List, [], ◌∷◌, ◌++◌}
use Prim.Native.Nat.{ℕ, zero, suc, ◌+◌, ◌-◌, ◌≤◌, ◌<◌}
use native.Mathlib.Nat.{eq-or-lt_of_le}
use native.Mathlib.Omega.{arith}
use lib.Dec.{eqb, ltb}
use lib.ListN.{length, get_or, take, drop, length-take, length-append, length-drop, get_or-append}
use lib.Seq.{get_or-take, get_or-drop, get_or-append-add}
use borrow.Author.Tests.{eq-eqb, ne_eqb, eqb-true, eqb-false, ltb-true, ltb-false}
use Rattle.std.specs.List.{list_any}
use Rattle.std.specs.Prelude.{Result, Ok, Err, is_ok}
use Rattle.std.proofs.lemmas.List.Sorted.{searched}
use Rattle.std.specs.Ordering.{nat_cmp}
use Rattle.std.specs.List.Sorted.{IsBinarySearchResult}
use Rattle.rules.specs.Base.{contains}
use Rattle.split_arg.specs.Order.{Ascending, Searchable, Parted}

before_or_not : (i n : ℕ) → (i < n) ⊎ (n ≤ i)
before_or_not i n = go (ltb i n) refl
  where
    go : (b : Bool) → ltb i n ≡ b → (i < n) ⊎ (n ≤ i)
    go true e = inl (ltb-true i n e)
    go false e = inr (ltb-false i n e)

-- ---- what can be looked up in
pub few_searchable : (s : List ℕ) → length s ≤ 128 → Searchable s
few_searchable s h = record { order = λ more. absurd (omega arith) }

pub part_searchable : (n : ℕ) (s : List ℕ) → length s ≤ 128 → Searchable (take n s)
part_searchable n s h = few_searchable (take n s) (omega (arith, length-take n s))

pub ordered_searchable : (s : List ℕ) → Ascending s → Searchable s
ordered_searchable s a = record { order = λ more. a }

-- ---- `contains`, by the library's search and by places
pub any_contains : (s : List ℕ) (b : ℕ) → list_any (λ y. eqb y b) s ≡ contains s b
unfolding contains
any_contains [] b = refl
any_contains (x ∷ s) b = ap (λ (t : Bool). eqb x b || t) (any_contains s b)

pub contains_at : (s : List ℕ) (b i : ℕ) → i < length s → get_or s i 0 ≡ b → contains s b ≡ true
unfolding contains
contains_at [] b i h e = absurd (omega arith)
contains_at (x ∷ s) b zero h e = rw (eq-eqb x b e)
contains_at (x ∷ s) b (suc i) h e = or-true (eqb x b) (contains s b) (contains_at s b i (omega arith) e)
  where
    or-true : (p q : Bool) → q ≡ true → (p || q) ≡ true
    or-true true q r = refl
    or-true false q r = r

pub contains_none : (s : List ℕ) (b : ℕ) → ((i : ℕ) → i < length s → get_or s i 0 ≡ b → ⊥) → contains s b ≡ false
unfolding contains
contains_none [] b h = refl
contains_none (x ∷ s) b h =
    rw (ne_eqb x b (h zero (omega arith)), contains_none s b (λ i l. h (suc i) (omega arith)))

-- ---- the library's search in a list in rising order
ascending_up : (s : List ℕ) → Ascending s → (i j : ℕ) → i ≤ j → j < length s → get_or s i 0 ≤ get_or s j 0
ascending_up s a i j h l = ⊎_elim (λ e. rw e (omega arith)) (λ q. omega (arith, a.rises i j q l)) (eq-or-lt_of_le h)

pub found_or_none :
    (s : List ℕ) (letter : ℕ) (r : Result ℕ ℕ)
    → Ascending s
    → IsBinarySearchResult (λ y. nat_cmp y letter) s r
    → is_ok r ≡ contains s letter
found_or_none s letter (Ok i) a z = let f = searched s letter (Ok i) z (ascending_up s a) in sym (contains_at s letter i f.0 f.1)
found_or_none s letter (Err i) a z =
    let f = searched s letter (Err i) z (ascending_up s a) in
    sym (contains_none s letter (λ k l e. ⊎_elim (λ q. omega (arith, f.1 k q)) (λ q. omega (arith, f.2 k q l)) (before_or_not k i)))

-- ---- the halves
-- what stands before `low` is below the letter, and from `high` on nothing is
pub record Between (s : List ℕ) (letter low high : ℕ) : Type 0 where
  pub ordered : low ≤ high
  pub within : high ≤ length s
  pub below : (i : ℕ) → i < low → get_or s i 0 < letter
  pub above : (i : ℕ) → high ≤ i → i < length s → letter ≤ get_or s i 0

pub between_first : (s : List ℕ) (letter : ℕ) → Between s letter 0 (length s)
between_first s letter = record {
  ordered = omega arith;
  within = omega arith;
  below = λ i h. absurd (omega arith);
  above = λ i h l. absurd (omega arith);
}

module _ (s : List ℕ) (letter low high : ℕ) (a : Ascending s) (z : Between s letter low high) (m : ℕ) (l : low ≤ m) (h : m < high) where
  pub upper_half : get_or s m 0 < letter → Between s letter (m + 1) high
  upper_half below = record {
    ordered = omega arith;
    within = z.within;
    below = λ i k. ⊎_elim (λ e. rw e below) (λ n. omega (arith, a.rises i m n (omega (arith, z.within)))) (eq-or-lt_of_le (before i k));
    above = z.above;
  }
    where
      before : (i : ℕ) → i < m + 1 → i ≤ m
      before i k = omega arith

  pub lower_half : letter ≤ get_or s m 0 → Between s letter low m
  lower_half above = record {
    ordered = l;
    within = omega (arith, z.within);
    below = z.below;
    above = λ i k n. ⊎_elim (λ e. rw (← e) above) (λ o. omega (arith, a.rises m i o n)) (eq-or-lt_of_le k);
  }

pub between_last : (s : List ℕ) (letter low high : ℕ) → Between s letter low high → high ≤ low → Parted s letter low
between_last s letter low high z h = record {
  within = omega (arith, z.ordered, z.within);
  below = z.below;
  above = λ i k l. z.above i (omega (arith, z.ordered)) l;
}

-- ---- the letter at its place, or none
module _ (s : List ℕ) (letter place : ℕ) (z : Parted s letter place) where
  pub parted_end : place ≡ length s → false ≡ contains s letter
  parted_end e = sym (contains_none s letter (λ i l d. absurd (omega (arith, z.below i (omega arith)))))

  pub parted_here : Ascending s → place < length s → eqb (get_or s place 0) letter ≡ contains s letter
  parted_here a h = go (eqb (get_or s place 0) letter) refl
    where
      go : (b : Bool) → eqb (get_or s place 0) letter ≡ b → eqb (get_or s place 0) letter ≡ contains s letter
      go true e = e ∙ sym (contains_at s letter place h (eqb-true (get_or s place 0) letter e))
      go false e = e ∙ sym (contains_none s letter apart)
        where
          from : (i : ℕ) → i < length s → get_or s i 0 ≡ letter → place ≤ i → ⊥
          from i l d k =
              ⊎_elim
              (λ q. eqb-false (get_or s place 0) letter e (rw q d))
              (λ q. omega (arith, z.above place (omega arith) h, a.rises place i q l))
              (eq-or-lt_of_le k)

          apart : (i : ℕ) → i < length s → get_or s i 0 ≡ letter → ⊥
          apart i l d = ⊎_elim (λ k. omega (arith, z.below i k)) (from i l d) (before_or_not i place)

-- ---- a list that grows in rising order
pub ascending_take : (n : ℕ) (s : List ℕ) → Ascending s → Ascending (take n s)
ascending_take n s a = record {
  rises = λ i j h l.
      let most = length-take n s in
      let before : i < n = omega arith in
      let inside : j < n = omega arith in
      rw (get_or-take n s i 0 before, get_or-take n s j 0 inside) (a.rises i j h (omega arith));
}

pub ascending_drop : (n : ℕ) (s : List ℕ) → Ascending s → Ascending (drop n s)
ascending_drop n s a = record {
  rises = λ i j h l.
      rw (get_or-drop n s i 0, get_or-drop n s j 0) (a.rises (n + i) (n + j) (omega arith) (omega (arith, length-drop n s)));
}

pub ascending_append :
    (s t : List ℕ)
    → Ascending s
    → Ascending t
    → ((i j : ℕ) → i < length s → j < length t → get_or s i 0 < get_or t j 0)
    → Ascending (s ++ t)
ascending_append s t a b across = record { rises = rises }
  where
    in_second : (i : ℕ) → length s ≤ i → get_or (s ++ t) i 0 ≡ get_or t (i - length s) 0
    in_second i h =
        let e : i ≡ length s + (i - length s) = omega arith in
        ap (λ (k : ℕ). get_or (s ++ t) k 0) e ∙ get_or-append-add s t (i - length s) 0

    later : (i j : ℕ) → i < j → j < length (s ++ t) → length s ≤ j → get_or (s ++ t) i 0 < get_or (s ++ t) j 0
    later i j h l q =
        let long = length-append s t in
        ⊎_elim
        (λ p. rw (get_or-append s t 0 i p, in_second j q) (across i (j - length s) p (omega arith)))
        (λ p. rw (in_second i p, in_second j q) (b.rises (i - length s) (j - length s) (omega arith) (omega arith)))
        (before_or_not i (length s))

    rises : (i j : ℕ) → i < j → j < length (s ++ t) → get_or (s ++ t) i 0 < get_or (s ++ t) j 0
    rises i j h l =
        ⊎_elim
        (λ q. rw (get_or-append s t 0 i (omega arith), get_or-append s t 0 j q) (a.rises i j h q))
        (later i j h l)
        (before_or_not j (length s))

-- a letter that is not there is put at its place
pub ascending_insert :
    (s : List ℕ) (letter place : ℕ)
    → Ascending s
    → Parted s letter place
    → contains s letter ≡ false
    → Ascending (take place s ++ letter ∷ drop place s)
ascending_insert s letter place a z none =
    ascending_append (take place s) (letter ∷ drop place s) (ascending_take place s a) behind across
  where
    above : (i : ℕ) → place ≤ i → i < length s → letter < get_or s i 0
    above i h l =
        ⊎_elim
        (λ e. absurd (false≢true (sym none ∙ contains_at s letter i l (sym e))))
        (λ q. q)
        (eq-or-lt_of_le (z.above i h l))

    dropped : (i : ℕ) → i < length (drop place s) → letter < get_or (drop place s) i 0
    dropped i l = rw (get_or-drop place s i 0) (above (place + i) (omega arith) (omega (arith, length-drop place s)))

    behind : Ascending (letter ∷ drop place s)
    behind = ascending_append (letter ∷ []) (drop place s) alone (ascending_drop place s a) first
      where
        alone : Ascending (letter ∷ [])
        alone = record { rises = λ i j h l. absurd (omega arith) }

        first : (i j : ℕ) → i < length (letter ∷ []) → j < length (drop place s) → get_or (letter ∷ []) i 0 < get_or (drop place s) j 0
        first zero j h l = dropped j l
        first (suc i) j h l = absurd (omega arith)

    taken : (i : ℕ) → i < length (take place s) → get_or (take place s) i 0 < letter
    taken i h =
        let within : i < place = omega (arith, length-take place s) in
        rw (get_or-take place s i 0 within) (z.below i within)

    across : (i j : ℕ) → i < length (take place s) → j < length (letter ∷ drop place s) → get_or (take place s) i 0 < get_or (letter ∷ drop place s) j 0
    across i zero h l = taken i h
    across i (suc j) h l = omega (arith, taken i h, dropped j (omega arith))
