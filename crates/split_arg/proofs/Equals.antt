-- The first `=`: the steps of the loop that looks for it, and what stands before and behind it.
use mathlib.Core.Path.{◌≡◌, refl, ap}
use mathlib.Core.Bool.{Bool, true, false}
use mathlib.Core.List.{List, [], ◌∷◌}
use mathlib.Core.Option.{some, none}
use Prim.Native.Nat.{ℕ, suc, ◌+◌, ◌≤◌, ◌<◌, zero-le, suc-le-suc}
use native.Mathlib.Nat.{add-zero}
use native.Mathlib.Numerals.{add-one}
use native.Mathlib.Omega.{arith}
use lib.Dec.{eqb}
use lib.ListN.{length, get_or, take, drop, drop_of_length-le}
use lib.Seq.{drop-cons}
use borrow.Author.Tests.{eq-eqb, ne_eqb}
use Rattle.std.specs.Prelude.{if◌then◌else◌}
use Rattle.rules.specs.Split.{equals, before_equals, behind_equals}
use Rattle.split_arg.specs.Parts.{equals_from}

module _ (os : List ℕ) (i : ℕ) where
  pub equals_end : length os ≤ i → equals_from os i ≡ i
  unfolding equals_from before_equals
  equals_end h = rw (drop_of_length-le os h, add-zero i)

  pub equals_here : i < length os → get_or os i 0 ≡ 61 → equals_from os i ≡ i
  unfolding equals_from before_equals equals
  equals_here h e = rw (drop-cons os i 0 h, eq-eqb (get_or os i 0) 61 e) (add-zero i)

  pub equals_later : i < length os → (get_or os i 0 ≡ 61 → ⊥) → equals_from os i ≡ equals_from os (i + 1)
  unfolding equals_from before_equals equals
  equals_later h e = rw (add-one i, drop-cons os i 0 h, ne_eqb (get_or os i 0) 61 e) (omega arith)

-- what stands before it, and whether one is there
pub before_few : (s : List ℕ) → length (before_equals s) ≤ length s
unfolding before_equals
before_few [] = zero-le
before_few (b ∷ s) = go (eqb b equals) (before_few s)
  where
    go : (t : Bool) → length (before_equals s) ≤ length s → length (if t then [] else b ∷ before_equals s) ≤ suc (length s)
    go true h = zero-le
    go false h = suc-le-suc h

pub before_part : (s : List ℕ) → before_equals s ≡ take (length (before_equals s)) s
unfolding before_equals
before_part [] = refl
before_part (b ∷ s) = go (eqb b equals) (before_part s)
  where
    go :
        (t : Bool)
        → before_equals s ≡ take (length (before_equals s)) s
        → (if t then [] else b ∷ before_equals s) ≡ take (length (if t then [] else b ∷ before_equals s)) (b ∷ s)
    go true h = refl
    go false h = ap (λ (l : List ℕ). b ∷ l) h

pub no_equals_lem : (s : List ℕ) → length (before_equals s) ≡ length s → behind_equals s ≡ none
unfolding before_equals behind_equals
no_equals_lem [] h = refl
no_equals_lem (b ∷ s) h = go (eqb b equals) h (λ e. no_equals_lem s e)
  where
    go :
        (t : Bool)
        → length (if t then [] else b ∷ before_equals s) ≡ suc (length s)
        → (length (before_equals s) ≡ length s → behind_equals s ≡ none)
        → (if t then some s else behind_equals s) ≡ none
    go true h r = absurd (omega arith)
    go false h r = r (omega arith)

pub has_equals :
    (s : List ℕ)
    → (length (before_equals s) ≡ length s → ⊥)
    → behind_equals s ≡ some (drop (suc (length (before_equals s))) s)
unfolding before_equals behind_equals
has_equals [] h = absurd (h refl)
has_equals (b ∷ s) h = go (eqb b equals) h (λ e. has_equals s e)
  where
    go :
        (t : Bool)
        → (length (if t then [] else b ∷ before_equals s) ≡ suc (length s) → ⊥)
        → ((length (before_equals s) ≡ length s → ⊥) → behind_equals s ≡ some (drop (suc (length (before_equals s))) s))
        → (if t then some s else behind_equals s) ≡ some (drop (suc (length (if t then [] else b ∷ before_equals s))) (b ∷ s))
    go true h r = refl
    go false h r = r (λ e. h (ap suc e))
