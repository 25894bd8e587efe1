-- The first fault among numbered elements: where all before it are good.
use mathlib.Core.Bool.{Bool, true, false}
use mathlib.Core.List.{List, [], ◌∷◌, map}
use mathlib.Core.Logic.{⊎_elim}
use mathlib.Core.Option.{some, none}
use mathlib.Core.Path.{◌≡◌, refl}
use Prim.Native.Nat.{ℕ, zero, suc, ◌+◌, ◌≤◌, ◌<◌}
use native.Mathlib.Nat.{eq-or-lt_of_le}
use native.Mathlib.Omega.{arith}
use Rattle.std.specs.Prelude.{if◌then◌else◌}
use Rattle.rules.specs.Base.{first_fault, numbers}

pub fault_map : {A B : Type 0} (p : B → Bool) (g : A → B) (j : ℕ) (l : List A) → first_fault p j (map g l) ≡ first_fault (λ a. p (g a)) j l
unfolding first_fault
fault_map p g j [] = refl
fault_map p g j (a ∷ l) = rw (fault_map p g (suc j) l)

-- the predicate counts only at the elements
pub fault_same :
    (p q : ℕ → Bool) (n j : ℕ)
    → ((k : ℕ) → j ≤ k → k < j + n → p k ≡ q k)
    → first_fault p j (numbers n j) ≡ first_fault q j (numbers n j)
unfolding first_fault numbers
fault_same p q zero j h = refl
fault_same p q (suc n) j h =
    rw (h j (omega arith) (omega arith), fault_same p q n (suc j) (λ k a b. h k (omega arith) (omega arith)))

module _ (p : ℕ → Bool) where
  pub no_fault_from : (n j : ℕ) → ((k : ℕ) → j ≤ k → k < j + n → p k ≡ true) → first_fault p j (numbers n j) ≡ none
  unfolding first_fault numbers
  no_fault_from zero j h = refl
  no_fault_from (suc n) j h =
      rw (h j (omega arith) (omega arith)) (no_fault_from n (suc j) (λ k a b. h k (omega arith) (omega arith)))

  pub fault_from :
      (n j i : ℕ) → j ≤ i → i < j + n → ((k : ℕ) → k < i → p k ≡ true) → p i ≡ false → first_fault p j (numbers n j) ≡ some i
  unfolding first_fault numbers
  fault_from zero j i a b h e = absurd (omega arith)
  fault_from (suc n) j i a b h e =
      ⊎_elim
      (λ (s : j ≡ i). rw (s, e))
      (λ (l : j < i). rw (h j l) (fault_from n (suc j) i l (omega arith) h e))
      (eq-or-lt_of_le a)

  pub fault_here : (n i : ℕ) → i < n → ((k : ℕ) → k < i → p k ≡ true) → p i ≡ false → first_fault p 0 (numbers n 0) ≡ some i
  fault_here n i l h e = fault_from n 0 i (omega arith) (omega arith) h e

  pub fault_nowhere : (n i : ℕ) → n ≤ i → ((k : ℕ) → k < i → p k ≡ true) → first_fault p 0 (numbers n 0) ≡ none
  fault_nowhere n i l h = no_fault_from n 0 (λ k a b. h k (omega arith))

  pub fault_inside : (n j : ℕ) (i : ℕ) → first_fault p j (numbers n j) ≡ some i → (j ≤ i) × (i < j + n)
  unfolding first_fault numbers
  fault_inside zero j i e = absurd (let z : ◌≡◌ {A = ℕ} 0 1 = cc in omega arith)
  fault_inside (suc n) j i e = go (p j) refl e (λ h. fault_inside n (suc j) i h)
    where
      go :
          (b : Bool)
          → p j ≡ b
          → (if b then first_fault p (suc j) (numbers n (suc j)) else some j) ≡ some i
          → (first_fault p (suc j) (numbers n (suc j)) ≡ some i → (suc j ≤ i) × (i < suc j + n))
          → (j ≤ i) × (i < j + suc n)
      go true h e later = let r = later e in (omega (arith, r.0), omega (arith, r.1))
      go false h e later = let s : j ≡ i = cc in (omega arith, omega arith)
