-- Counting in lists of digits, where a digit d stands for W d cases: for the places of bytes, for lengths and for the argument count.
use mathlib.Core.Bool.{Bool, true, false, false≢true}
use mathlib.Core.List.{List, [], ◌∷◌, ◌++◌}
use mathlib.Core.Option.{Option, some, none}
use mathlib.Core.Path.{◌≡◌, refl, ap}
use Prim.Native.Nat.{ℕ, zero, suc, ◌+◌, ◌*◌, ◌^◌, ◌≤◌, ◌<◌}
use native.Mathlib.Nat.{mul-add, add-mul, mul-le-mul_left, mul-le-mul_right, pow-zero, pow-succ'}
use native.Mathlib.Omega.{arith}
use lib.Dec.{eqb, ltb}
use lib.ListN.{length, replicate, length-replicate}
use borrow.Author.Tests.{ltb-true, ltb-false, lt-ltb, le-ltb, eqb-true}
use Rattle.std.specs.Prelude.{if◌then◌else◌}
use Rattle.rules.specs.Demands.{All}
use Rattle.rules_short.specs.Short.{count_up, lex_less}
use Rattle.rules_short.specs.ShortAnswered.{sum_below}

abbrev pub Below : ℕ → List ℕ → Type 0
Below base ds = All (λ (d : ℕ). d < base) ds

-- ---- where the digits are counted up
abbrev pub Highest : ℕ → List ℕ → Type 0
Highest base ds = All (λ (d : ℕ). base ≤ suc d) ds

pub count_highest : (base : ℕ) (ds : List ℕ) → Highest base ds → count_up base ds ≡ none
unfolding count_up
count_highest base [] h = refl
count_highest base (d ∷ ds) h = rw (count_highest base ds h.1, le-ltb (suc d) base h.0)

-- the last digit that is not the highest goes up, those behind it go back to 0
pub count_at :
    (base : ℕ) (front : List ℕ) (d : ℕ) (ds : List ℕ)
    → suc d < base
    → Highest base ds
    → count_up base (front ++ d ∷ ds) ≡ some (front ++ suc d ∷ replicate (length ds) 0)
unfolding count_up
count_at base [] d ds l h = rw (count_highest base ds h, lt-ltb (suc d) base l)
count_at base (x ∷ front) d ds l h = rw (count_at base front d ds l h)

-- ---- cases
pub zeros_below : (base n : ℕ) → 0 < base → Below base (replicate n 0)
zeros_below base zero h = tt
zeros_below base (suc n) h = (h, zeros_below base n h)

pub sum_rises : (f : ℕ → ℕ) (m n : ℕ) → m ≤ n → sum_below f m ≤ sum_below f n
unfolding sum_below
sum_rises f m zero h = let e : m ≡ 0 = omega arith in rw e (omega arith)
sum_rises f m (suc n) h = go (ltb n m) refl (sum_rises f m n)
  where
    go : (b : Bool) → ltb n m ≡ b → (m ≤ n → sum_below f m ≤ sum_below f n) → sum_below f m ≤ sum_below f n + f n
    go true e rise = let same : m ≡ suc n = omega (arith, ltb-true n m e) in rw same (omega arith)
    go false e rise = omega (arith, rise (ltb-false n m e))

module _ (W : ℕ → ℕ) where
  -- the cases of digits
  unfoldable pub weight : List ℕ → ℕ
  weight [] = 1
  weight (d ∷ ds) = W d * weight ds

  module _ (base : ℕ) where
    -- all cases of n digits
    unfoldable pub full : ℕ → ℕ
    full n = sum_below W base ^ n

    -- the cases of all lists of as many digits that come before
    unfoldable pub rank : List ℕ → ℕ
    rank [] = 0
    rank (d ∷ ds) = sum_below W d * full (length ds) + W d * rank ds

    full_more : (n : ℕ) → full (suc n) ≡ sum_below W base * full n
    unfolding full
    full_more n = pow-succ' (sum_below W base) n

    -- the cases of one first digit are as many as those of all that can follow it
    rank_first : (d r w n : ℕ) → r + w ≤ full n → sum_below W d * full n + W d * r + W d * w ≤ sum_below W (suc d) * full n
    unfolding sum_below
    rank_first d r w n h =
        omega (arith, mul-add (W d) r w, add-mul (sum_below W d) (W d) (full n), mul-le-mul_left (W d) h)

    rank_carry : (d r w n : ℕ) → r + w ≡ full n → sum_below W d * full n + W d * r + W d * w ≡ sum_below W (suc d) * full n
    unfolding sum_below
    rank_carry d r w n h =
        omega (arith, mul-add (W d) r w, add-mul (sum_below W d) (W d) (full n), ap (λ (x : ℕ). W d * x) h)

    pub rank_bound : (ds : List ℕ) → Below base ds → rank ds + weight ds ≤ full (length ds)
    unfolding rank weight full
    rank_bound [] h = omega (arith, pow-zero (sum_below W base))
    rank_bound (d ∷ ds) h =
        let n = length ds in
        let first = rank_first d (rank ds) (weight ds) n (rank_bound ds h.1) in
        let rise = mul-le-mul_right (full n) (sum_rises W (suc d) base h.0) in
        omega (arith, full_more n)

    pub rank_zeros : (n : ℕ) → rank (replicate n 0) ≡ 0
    unfolding rank sum_below
    rank_zeros zero = refl
    rank_zeros (suc n) = rw (rank_zeros n) (omega arith)

    pub record Counted (ds es : List ℕ) : Type 0 where
      pub below : Below base es
      pub size : length es ≡ length ds
      pub behind : rank es ≡ rank ds + weight ds

    -- Digits counted up are as many, and come right behind; where there are none, no case is left
    abbrev pub CountsTo : List ℕ → Option (List ℕ) → Type 0
    CountsTo ds (some es) = Counted ds es
    CountsTo ds none = rank ds + weight ds ≡ full (length ds)

    pub counts : (ds : List ℕ) → Below base ds → CountsTo ds (count_up base ds)
    unfolding count_up rank weight full
    counts [] h = omega (arith, pow-zero (sum_below W base))
    counts (d ∷ ds) h = go (count_up base ds) (counts ds h.1) (ltb (suc d) base) refl
      where
        long : length {A = ℕ} (replicate (length ds) 0) ≡ length ds
        long = length-replicate (length ds) 0

        go :
            (o : Option (List ℕ))
            → CountsTo ds o
            → (b : Bool)
            → ltb (suc d) base ≡ b
            → CountsTo (d ∷ ds) (elim o [
              | some es ↦ some (d ∷ es)
              | none ↦ if b then some (suc d ∷ replicate (length ds) 0) else none
            ])
        go (some es) c b e = record {
          below = (h.0, c.below);
          size = ap suc c.size;
          behind = rw (c.size, c.behind) (omega (arith, mul-add (W d) (rank ds) (weight ds)));
        }
        go none c true e = record {
          below = (ltb-true (suc d) base e, zeros_below base (length ds) (omega (arith, ltb-true (suc d) base e)));
          size = ap suc long;
          behind = rw (long, rank_zeros (length ds)) (omega (arith, rank_carry d (rank ds) (weight ds) (length ds) c));
        }
        go none c false e =
            let top : suc d ≡ base = omega (arith, ltb-false (suc d) base e, h.0) in
            let carried : sum_below W d * full (length ds) + W d * rank ds + W d * weight ds ≡ sum_below W base * full (length ds) =
            rw top at (rank_carry d (rank ds) (weight ds) (length ds) c) in
            omega (arith, full_more (length ds))

    -- what comes before by the first digit that differs comes before by its cases
    pub rank_order :
        (ds es : List ℕ)
        → Below base ds
        → Below base es
        → length ds ≡ length es
        → lex_less ds es ≡ true
        → rank ds + weight ds ≤ rank es
    unfolding lex_less rank weight
    rank_order [] [] p q l e = absurd (false≢true e)
    rank_order [] (x ∷ es) p q l e = absurd (omega arith)
    rank_order (d ∷ ds) [] p q l e = absurd (omega arith)
    rank_order (d ∷ ds) (x ∷ es) p q l e = go (eqb d x) refl e (rank_order ds es p.1 q.1)
      where
        same : length ds ≡ length es
        same = omega (arith, l)

        go :
            (b : Bool)
            → eqb d x ≡ b
            → (if b then lex_less ds es else ltb d x) ≡ true
            → (length ds ≡ length es → lex_less ds es ≡ true → rank ds + weight ds ≤ rank es)
            → rank (d ∷ ds) + weight (d ∷ ds) ≤ rank (x ∷ es)
        go true t f more =
            let alike : d ≡ x = eqb-true d x t in
            rw (← alike, same) (omega (arith, mul-add (W d) (rank ds) (weight ds), mul-le-mul_left (W d) (more same f)))
        go false t f more =
            let rise = mul-le-mul_right (full (length ds)) (sum_rises W (suc d) x (ltb-true d x f)) in
            rw (← same) (omega (arith, rank_first d (rank ds) (weight ds) (length ds) (rank_bound ds p.1)))
