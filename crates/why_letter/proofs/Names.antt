-- The name behind one dash, test by test.
use Rattle.std.specs.Prelude.{if◌then◌else◌}
use Rattle.std.specs.List.{list_any}
use mathlib.Core.Bool.{Bool, true, false, not, ◌&&◌, ◌||◌}
use mathlib.Core.List.{List, [], ◌∷◌}
use mathlib.Core.Option.{some, none}
use mathlib.Core.Path.{◌≡◌, refl, sym, ap, ◌∙◌}
use Prim.Native.Nat.{ℕ, ◌-◌, ◌≤◌, ◌<◌}
use native.Mathlib.Omega.{arith}
use lib.Dec.{eqb}
use lib.ListN.{length, get_or, take, drop}
use borrow.Author.Tests.{eq-eqb, ne_eqb}
use Rattle.utf8.specs.Utf8.{well_formed}
use Rattle.rules.specs.Base.{is_some}
use Rattle.rules.specs.Split.{dash, equals, behind_equals}
use Rattle.rules.specs.Why.{dashed_name}

pub take_all : (l : List ℕ) → take (length l) l ≡ l
take_all [] = refl
take_all (b ∷ l) = ap (λ (k : List ℕ). b ∷ k) (take_all l)

-- ---- an `=` in a list
pub any_equals : (s : List ℕ) → list_any (λ y. eqb y 61) s ≡ is_some (behind_equals s)
unfolding behind_equals equals is_some
any_equals [] = refl
any_equals (b ∷ s) = go (eqb b 61) (any_equals s)
  where
    go : (t : Bool) → list_any (λ y. eqb y 61) s ≡ is_some (behind_equals s) → (t || list_any (λ y. eqb y 61) s) ≡ is_some (if t then some s else behind_equals s)
    go true h = refl
    go false h = h

and-false : (b : Bool) → (b && false) ≡ false
and-false true = refl
and-false false = refl

and_true_is : (b : Bool) → (b && true) ≡ b
and_true_is true = refl
and_true_is false = refl

-- all behind the first byte
behind : (l : List ℕ) → 2 ≤ length l → take (length l - 1) (drop 1 l) ≡ get_or l 1 0 ∷ drop 2 l
behind [] h = absurd (omega arith)
behind (d ∷ []) h = absurd (omega arith)
behind (d ∷ b ∷ s) h = let z : length (d ∷ b ∷ s) - 1 ≡ length (b ∷ s) = omega arith in rw z (take_all (b ∷ s))

-- ---- the tests in their order
module _ (os : List ℕ) where
  pub name_short : length os < 2 → false ≡ is_some (dashed_name os)
  unfolding dashed_name is_some
  name_short h = go os h
    where
      go : (l : List ℕ) → length l < 2 → false ≡ is_some (dashed_name l)
      go [] h = refl
      go (d ∷ []) h = refl
      go (d ∷ b ∷ s) h = absurd (omega arith)

  module _ (two : 2 ≤ length os) where
    abbrev tests : List ℕ → Bool
    tests s = eqb (get_or os 0 0) dash && not (eqb (get_or os 1 0) dash) && (well_formed (get_or os 1 0 ∷ s) && not (is_some (behind_equals s)))

    -- the name is there just if all tests pass
    by_tests : is_some (dashed_name os) ≡ tests (drop 2 os)
    unfolding dashed_name is_some
    by_tests = go os two
      where
        passed : (t : Bool) (n : List ℕ) → is_some (if t then some n else none) ≡ t
        passed true n = refl
        passed false n = refl

        go : (l : List ℕ) → 2 ≤ length l
            → is_some (dashed_name l)
            ≡ (eqb (get_or l 0 0) dash && not (eqb (get_or l 1 0) dash) && (well_formed (get_or l 1 0 ∷ drop 2 l) && not (is_some (behind_equals (drop 2 l)))))
        go [] h = absurd (omega arith)
        go (d ∷ []) h = absurd (omega arith)
        go (d ∷ b ∷ s) h = passed (eqb d dash && not (eqb b dash) && (well_formed (b ∷ s) && not (is_some (behind_equals s)))) (b ∷ s)

    pub name_plain : (get_or os 0 0 ≡ 45 → ⊥) → false ≡ is_some (dashed_name os)
    unfolding dash
    name_plain n = sym (by_tests ∙ rw (ne_eqb (get_or os 0 0) 45 n))

    module _ (one : get_or os 0 0 ≡ 45) where
      pub name_long : get_or os 1 0 ≡ 45 → false ≡ is_some (dashed_name os)
      unfolding dash
      name_long e = sym (by_tests ∙ rw (eq-eqb (get_or os 0 0) 45 one, eq-eqb (get_or os 1 0) 45 e))

      module _ (other : get_or os 1 0 ≡ 45 → ⊥) (r : Bool) (h : r ≡ is_some (behind_equals (drop 2 os))) where
        dashed : is_some (dashed_name os) ≡ (well_formed (get_or os 1 0 ∷ drop 2 os) && not (is_some (behind_equals (drop 2 os))))
        unfolding dash
        dashed = by_tests ∙ rw (eq-eqb (get_or os 0 0) 45 one, ne_eqb (get_or os 1 0) 45 other)

        pub name_equals : r ≡ true → false ≡ is_some (dashed_name os)
        name_equals e = sym (dashed ∙ rw (← h, e) (and-false (well_formed (get_or os 1 0 ∷ drop 2 os))))

        pub name_utf8 : r ≡ false → (v : Bool) → v ≡ well_formed (take (length os - 1) (drop 1 os)) → v ≡ is_some (dashed_name os)
        name_utf8 e v w =
            w
            ∙ ap well_formed (behind os two)
            ∙ sym (dashed ∙ rw (← h, e) (and_true_is (well_formed (get_or os 1 0 ∷ drop 2 os))))
