-- `only_once` is a search among the earlier items, from the last on.
use mathlib.Core.Bool.{Bool, true, false}
use mathlib.Core.List.{List, [], ◌∷◌, ◌++◌, reverse, reverse-append}
use mathlib.Core.Option.{some, none, some-injective}
use mathlib.Core.Path.{◌≡◌, refl, sym, ap, ◌∙◌}
use Prim.Native.Nat.{ℕ, zero, suc}
use native.Mathlib.Nat.{sub-zero}
use native.Mathlib.Omega.{arith}
use lib.Dec.{eqb}
use lib.ListN.{take, get_elem?}
use borrow.Author.Tests.{eqb-true}
use Rattle.rules.specs.Outcome.{at, ◌>>=◌}
use Rattle.rules.specs.Split.{Item, Short, Long, ArgWord, Word, PosWord}
use Rattle.rules.specs.State.{position, same_name, before, only_once}
use Rattle.rules.specs.WhyAnswered.{same_named}
use Rattle.rules.proofs.Acceptance.{bind_is, lookup_inside}
use Rattle.rules.proofs.SplitLaws.{some≢none}
use Rattle.rules.proofs.Places.{slice_below}

-- the items before a place, from the last on
take_more : {A : Type 0} (l : List A) (j : ℕ) (a : A) → get_elem? l j ≡ some a → take (suc j) l ≡ take j l ++ (a ∷ [])
take_more [] j a e = absurd (some≢none (sym e))
take_more (b ∷ l) zero a e = let z : b ≡ a = some-injective b a e in rw z
take_more (b ∷ l) (suc j) a e = rw (take_more l j a e)

pub back_more : {A : Type 0} (l : List A) (j : ℕ) (a : A) → get_elem? l j ≡ some a → reverse (take (suc j) l) ≡ a ∷ reverse (take j l)
back_more l j a e = ap reverse (take_more l j a e) ∙ reverse-append (take j l) (a ∷ [])

nowhere : (k : ℕ) (l : List Item) → position (λ _. false) k l ≡ none
unfolding position
nowhere k [] = refl
nowhere k (z ∷ l) = nowhere (suc k) l

name_position : (y : Item) (l : List Item) → same_name y l ≡ position (same_named y) 0 l
unfolding same_name same_named
name_position (Short c a t) l = refl
name_position (Long n a t) l = refl
name_position (ArgWord t) l = sym (nowhere 0 l)
name_position (Word t) l = sym (nowhere 0 l)
name_position (PosWord t) l = sym (nowhere 0 l)

module _ (is : List Item) (i : ℕ) (y : Item) (here : get_elem? is i ≡ some y) where
  pub once_searches : only_once is i ≡ before i (position (same_named y) 0 (reverse (take i is)))
  unfolding only_once before position at ◌>>=◌
  once_searches = go (eqb i 0) refl
    where
      go : (b : Bool) → eqb i 0 ≡ b → only_once is i ≡ before i (position (same_named y) 0 (reverse (take i is)))
      go true z = let w : i ≡ 0 = eqb-true i 0 z in rw w
      go false z =
          let below = lookup_inside is i y here in
          rw (z, slice_below 0 i is (omega arith) (omega arith), sub-zero i)
          (ap (before i) (bind_is (get_elem? is i) (λ y. same_name y (reverse (take i is))) here ∙ name_position y (reverse (take i is))))
