-- Bits of a single bit, of a union and of an intersection.
use mathlib.Core.Bool.{false, ◌&&◌, ◌||◌}
use mathlib.Core.Logic.{◌⊎◌, inl, inr, ⊎_elim}
use mathlib.Core.Path.{◌≡◌, refl, sym, ap, ◌∙◌}
use Prim.Native.Nat.{ℕ, zero, suc, ◌+◌, ◌-◌, ◌*◌, ◌/◌, ◌%◌, ◌^◌, ◌<◌, min, max, suc-le-suc}
use native.Mathlib.Nat.{mod-lt, zero-lt-suc, le_of_suc-le-suc, max-le, min-le_left, lt_of_le_of_lt, zero-add, add-zero}
use native.Mathlib.Nat.{one-mul, pow-suc, div-eq_of_lt, zero-div}
use native.Mathlib.Omega.{arith}
use lib.Dec.{eqb}
use lib.Bits.{bit_and, bit_or, or_step, and_step, and_shr, or_shr}
use lib.Arith.{digits_mod}
use lib.Pow.{pow-lt, pow-add, shl_exact, shl-shr}
use borrow.Author.Tests.{eq-eqb, ne_eqb}
use Rattle.take_table.specs.Bits.{bit_at}

two_pos : zero < 2
two_pos = zero-lt-suc 1

-- the lowest bit of a union
or_odd : (a b : ℕ) → bit_or a b % 2 ≡ max (a % 2) (b % 2)
or_odd a b =
    ap (λ (x : ℕ). x % 2) (or_step a b)
    ∙ digits_mod (bit_or (a / 2) (b / 2)) (low (a % 2) (b % 2) (mod-lt a two_pos) (mod-lt b two_pos))
  where
    low : (x y : ℕ) → x < 2 → y < 2 → max x y < 2
    low x y h g = suc-le-suc (max-le (le_of_suc-le-suc h) (le_of_suc-le-suc g))

digit_or : (x y : ℕ) → x < 2 → y < 2 → eqb (max x y) 1 ≡ (eqb x 1 || eqb y 1)
digit_or zero zero h g = refl
digit_or zero (suc zero) h g = refl
digit_or zero (suc (suc y)) h g = absurd (omega arith)
digit_or (suc zero) zero h g = refl
digit_or (suc zero) (suc zero) h g = refl
digit_or (suc zero) (suc (suc y)) h g = absurd (omega arith)
digit_or (suc (suc x)) y h g = absurd (omega arith)

pub bit_or_lem : (a b m : ℕ) → bit_at (bit_or a b) m ≡ (bit_at a m || bit_at b m)
unfolding bit_at
bit_or_lem a b m =
    ap (λ (x : ℕ). eqb (x % 2) 1) (or_shr a b m)
    ∙ ap (λ (x : ℕ). eqb x 1) (or_odd (a / 2 ^ m) (b / 2 ^ m))
    ∙ digit_or (a / 2 ^ m % 2) (b / 2 ^ m % 2) (mod-lt (a / 2 ^ m) two_pos) (mod-lt (b / 2 ^ m) two_pos)

-- and of an intersection
and_odd : (a b : ℕ) → bit_and a b % 2 ≡ min (a % 2) (b % 2)
and_odd a b =
    ap (λ (x : ℕ). x % 2) (and_step a b)
    ∙ digits_mod (bit_and (a / 2) (b / 2)) (low (a % 2) (b % 2) (mod-lt a two_pos) (mod-lt b two_pos))
  where
    low : (x y : ℕ) → x < 2 → y < 2 → min x y < 2
    low x y h g = lt_of_le_of_lt (min-le_left x y) h

digit_and : (x y : ℕ) → x < 2 → y < 2 → eqb (min x y) 1 ≡ (eqb x 1 && eqb y 1)
digit_and zero zero h g = refl
digit_and zero (suc zero) h g = refl
digit_and zero (suc (suc y)) h g = absurd (omega arith)
digit_and (suc zero) zero h g = refl
digit_and (suc zero) (suc zero) h g = refl
digit_and (suc zero) (suc (suc y)) h g = absurd (omega arith)
digit_and (suc (suc x)) y h g = absurd (omega arith)

pub bit_and_lem : (a b m : ℕ) → bit_at (bit_and a b) m ≡ (bit_at a m && bit_at b m)
unfolding bit_at
bit_and_lem a b m =
    ap (λ (x : ℕ). eqb (x % 2) 1) (and_shr a b m)
    ∙ ap (λ (x : ℕ). eqb x 1) (and_odd (a / 2 ^ m) (b / 2 ^ m))
    ∙ digit_and (a / 2 ^ m % 2) (b / 2 ^ m % 2) (mod-lt (a / 2 ^ m) two_pos) (mod-lt (b / 2 ^ m) two_pos)

-- ---- a single bit
pub three_ways : (m n : ℕ) → (m < n) ⊎ ((m ≡ n) ⊎ (n < m))
three_ways zero zero = inr (inl refl)
three_ways zero (suc n) = inl (omega arith)
three_ways (suc m) zero = inr (inr (omega arith))
three_ways (suc m) (suc n) =
    ⊎_elim
    (λ h. inl (omega arith))
    (λ r. ⊎_elim (λ e. inr (inl (ap suc e))) (λ h. inr (inr (omega arith))) r)
    (three_ways m n)

-- m places above the lowest of 2 ^ (k + m) there is an even number, unless k is 0
raised : (k m : ℕ) → 2 ^ (k + m) / 2 ^ m ≡ 2 ^ k
raised k m = ap (λ (x : ℕ). x / 2 ^ m) (pow-add 2 k m) ∙ shl-shr (2 ^ k) m

even : (k : ℕ) → 2 ^ suc k % 2 ≡ 0
even k = ap (λ (x : ℕ). x % 2) (pow-suc 2 k ∙ sym (add-zero (2 ^ k * 2))) ∙ digits_mod (2 ^ k) two_pos

small : (n m : ℕ) → n < m → 2 ^ n / 2 ^ m ≡ 0
small n m h = div-eq_of_lt (pow-lt h)

pub bit_only : (n m : ℕ) → bit_at (2 ^ n) m ≡ eqb m n
unfolding bit_at
bit_only n m = ⊎_elim above (λ r. ⊎_elim here below r) (three_ways m n)
  where
    here : m ≡ n → eqb (2 ^ n / 2 ^ m % 2) 1 ≡ eqb m n
    here e =
        ap (λ (k : ℕ). eqb (2 ^ k / 2 ^ m % 2) 1) (sym e)
        ∙ ap (λ (x : ℕ). eqb (x % 2) 1) (ap (λ (k : ℕ). 2 ^ k / 2 ^ m) (sym (zero-add m)) ∙ raised 0 m)
        ∙ sym (eq-eqb m n e)

    above : m < n → eqb (2 ^ n / 2 ^ m % 2) 1 ≡ eqb m n
    above h =
        let k : ℕ = n - suc m in
        let e : n ≡ suc k + m = omega arith in
        ap (λ (x : ℕ). eqb (2 ^ x / 2 ^ m % 2) 1) e
        ∙ ap (λ (x : ℕ). eqb (x % 2) 1) (raised (suc k) m)
        ∙ ap (λ (x : ℕ). eqb x 1) (even k)
        ∙ sym (ne_eqb m n (λ q. omega arith))

    below : n < m → eqb (2 ^ n / 2 ^ m % 2) 1 ≡ eqb m n
    below h = ap (λ (x : ℕ). eqb (x % 2) 1) (small n m h) ∙ sym (ne_eqb m n (λ q. omega arith))

-- a shifted 1, in 64 bits
pub bit_shifted : (n : ℕ) → n < 64 → (m : ℕ) → bit_at (1 * 2 ^ n % 2 ^ 64) m ≡ eqb m n
bit_shifted n h m =
    ap (λ (x : ℕ). bit_at x m) (shl_exact 1 n 64 (pow-lt (zero-lt-suc 0)) (omega arith) ∙ one-mul (2 ^ n))
    ∙ bit_only n m

pub bit_none : (m : ℕ) → bit_at 0 m ≡ false
unfolding bit_at
bit_none m = rw (zero-div (2 ^ m))
