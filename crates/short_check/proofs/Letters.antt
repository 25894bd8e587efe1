-- Places of bytes in an alphabet, as the library finds them.
use mathlib.Core.Path.{◌≡◌, refl, sym, ◌∙◌}
use mathlib.Core.Bool.{Bool, true, false, not, cond}
use mathlib.Core.List.{List, [], ◌∷◌}
use Prim.Native.Nat.{ℕ, suc, ◌+◌, ◌≤◌, ◌<◌}
use native.Mathlib.Numerals.{add-one}
use native.Mathlib.Omega.{arith}
use lib.Dec.{eqb, ltb}
use lib.ListN.{length, get_or, drop, drop_of_length-le}
use lib.Seq.{drop-cons}
use borrow.Author.Tests.{eq-eqb, ne_eqb, eqb-true, eqb-false, ltb-false}
use Rattle.std.specs.Prelude.{if◌then◌else◌, Option, position}
use Rattle.std.specs.List.{position_or_len, list_any, list_all}
use Rattle.std.specs.Option.{unwrap_or}
use Rattle.rules.specs.Base.{contains, all}
use Rattle.rules.specs.Accept.{index_of}

eqb_both : (x y : ℕ) → eqb y x ≡ eqb x y
eqb_both x y = go (eqb x y) refl
  where
    go : (t : Bool) → eqb x y ≡ t → eqb y x ≡ t
    go true e = eq-eqb y x (sym (eqb-true x y e))
    go false e = ne_eqb y x (λ p. eqb-false x y e (sym p))

pub place_most : (x : ℕ) (al : List ℕ) → index_of x al ≤ length al
unfolding index_of
place_most x [] = omega arith
place_most x (y ∷ al) = go (eqb x y) (place_most x al)
  where
    go : (t : Bool) → index_of x al ≤ length al → (if t then 0 else suc (index_of x al)) ≤ suc (length al)
    go true h = omega arith
    go false h = omega arith

place_is : (x : ℕ) (al : List ℕ) → position_or_len (λ y. eqb y x) al ≡ index_of x al
unfolding index_of
place_is x [] = refl
place_is x (y ∷ al) = rw (eqb_both x y) (go (eqb x y) (place_is x al))
  where
    go : (t : Bool) → position_or_len (λ y. eqb y x) al ≡ index_of x al → cond (not t) (1 + position_or_len (λ y. eqb y x) al) 0 ≡ (if t then 0 else suc (index_of x al))
    go true h = refl
    go false h = omega arith

-- the place that is found, or the length
pub place_found : (al : List ℕ) (x : ℕ) (r : Option ℕ) (u : ℕ) → r ≡ position (λ y. eqb y x) al → u ≡ unwrap_or r (length al) → u ≡ index_of x al
place_found al x r u e f = f ∙ rw e (go (ltb (position_or_len (λ y. eqb y x) al) (length al)) refl) ∙ place_is x al
  where
    go :
        (t : Bool)
        → ltb (position_or_len (λ y. eqb y x) al) (length al) ≡ t
        → unwrap_or (position (λ y. eqb y x) al) (length al) ≡ position_or_len (λ y. eqb y x) al
    go true p = rw p
    go false p = rw p (omega (arith, ltb-false _ _ p, place_is x al, place_most x al))

pub any_is : (x : ℕ) (al : List ℕ) → list_any (λ y. eqb y x) al ≡ contains al x
unfolding contains
any_is x [] = refl
any_is x (y ∷ al) = rw (any_is x al)

pub all_there : (al os : List ℕ) → list_all (λ x. list_any (λ y. eqb y x) al) os ≡ all (contains al) os
unfolding all
all_there al [] = refl
all_there al (x ∷ os) = rw (any_is x al, all_there al os)

pub all_in : (al os : List ℕ) → list_all (contains al) os ≡ all (contains al) os
unfolding all
all_in al [] = refl
all_in al (x ∷ os) = rw (all_in al os)

-- a byte that is sought from the front
module _ (al : List ℕ) (x i : ℕ) (e : contains al x ≡ contains (drop i al) x) where
  pub seek_here : i < length al → get_or al i 0 ≡ x → true ≡ contains al x
  unfolding contains
  seek_here h f = sym (e ∙ rw (drop-cons al i 0 h, eq-eqb (get_or al i 0) x f))

  pub seek_next : i < length al → (get_or al i 0 ≡ x → ⊥) → contains al x ≡ contains (drop (i + 1) al) x
  unfolding contains
  seek_next h f = e ∙ rw (add-one i, drop-cons al i 0 h, ne_eqb (get_or al i 0) x f)

  pub seek_end : length al ≤ i → false ≡ contains al x
  unfolding contains
  seek_end h = sym (e ∙ rw (drop_of_length-le al {i = i} h))
