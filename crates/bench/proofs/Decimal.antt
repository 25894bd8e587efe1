-- The digits that `io::decimal` writes are those of the rules, and a u32 has at most 10.
use mathlib.Core.Bool.{Bool, true, false}
use mathlib.Core.List.{List, [], ◌∷◌, ◌++◌}
use mathlib.Core.Path.{◌≡◌, refl, ap}
use Prim.Native.Nat.{ℕ, zero, suc, ◌+◌, ◌-◌, ◌/◌, ◌%◌, ◌^◌, ◌≤◌, ◌<◌}
use native.Mathlib.Nat.{pow-succ', pow-le-pow_right}
use native.Mathlib.Omega.{arith, div_fact, mod_fact}
use lib.Dec.{leb, ltb, lit<}
use borrow.Author.Tests.{lt-ltb, le-ltb, ltb-true, ltb-false, leb-true, leb-false}
use Rattle.io.specs.Digits.{hex_digit_ascii, last_digits, IsDigitCount}
use Rattle.rules.specs.Bench.{decimal_within, decimal}

-- a number of more than one digit is its last digit behind the number without it
fewer : (n k : ℕ) → 10 ≤ n → IsDigitCount 10 1 n (suc k) → IsDigitCount 10 1 (n / 10) k
fewer n zero h f = absurd (omega (arith, f.1, pow-succ' 10 0))
fewer n (suc k) h f =
    let size = pow-succ' 10 (suc k) in
    let below = pow-succ' 10 k in
    let parts = div_fact n 9 in
    let last = mod_fact n 9 in
    let less : suc (suc k) - 1 ≡ suc k = omega arith in
    let least : 10 ^ suc k ≤ n = rw less at (f.2 (omega arith)) in
    let one : suc k - 1 ≡ k = omega arith in
    (omega arith, omega (arith, f.1), λ _. rw one (omega arith))

one_digit : (n k : ℕ) → n < 10 → IsDigitCount 10 1 n (suc k) → k ≡ 0
one_digit n zero h f = refl
one_digit n (suc k) h f =
    let less : suc (suc k) - 1 ≡ suc k = omega arith in
    let least : 10 ^ suc k ≤ n = rw less at (f.2 (omega arith)) in
    let one : 1 ≤ 10 ^ k = pow-le-pow_right {n = 10} (lit< tt) {i = 0} {j = k} (omega arith) in
    absurd (omega (arith, pow-succ' 10 k))

glyph_digit : (d : ℕ) → d < 10 → hex_digit_ascii d ≡ 48 + d
glyph_digit d h = rw (lt-ltb d 10 h)

module _ (f n k : ℕ) (g : IsDigitCount 10 1 n (suc k)) where
  last_glyph : hex_digit_ascii (n % 10) ≡ 48 + n % 10
  last_glyph = glyph_digit (n % 10) (mod_fact n 9)

  digits_one : n < 10 → last_digits 10 (suc k) n ≡ decimal_within (suc f) n
  unfolding decimal_within
  digits_one h =
      let z = one_digit n k h g in
      let m : n % 10 ≡ n = omega (arith, div_fact n 9, mod_fact n 9) in
      rw (z, last_glyph, lt-ltb n 10 h, decimal_within, m)

  digits_more : 10 ≤ n → last_digits 10 k (n / 10) ≡ decimal_within f (n / 10) → last_digits 10 (suc k) n ≡ decimal_within (suc f) n
  unfolding decimal_within
  digits_more h e = rw (last_glyph, le-ltb n 10 h, decimal_within) (ap (λ (t : List ℕ). t ++ ((48 + n % 10) ∷ [])) e)

digits_within : (f n k : ℕ) → n < f → IsDigitCount 10 1 n k → last_digits 10 k n ≡ decimal_within f n
digits_within zero n k h g = absurd (omega arith)
digits_within (suc f) n zero h g = absurd (omega (arith, g.0))
digits_within (suc f) n (suc k) h g =
    below (ltb n 10) refl (λ l. digits_within f (n / 10) k (omega (arith, div_fact n 9)) (fewer n k l g))
  where
    below : (t : Bool) → ltb n 10 ≡ t → (10 ≤ n → last_digits 10 k (n / 10) ≡ decimal_within f (n / 10)) → last_digits 10 (suc k) n ≡ decimal_within (suc f) n
    below true e rest = digits_one f n k g (ltb-true n 10 e)
    below false e rest = let l = ltb-false n 10 e in digits_more f n k g l (rest l)

module _ (n k : ℕ) (g : IsDigitCount 10 1 n k) where
  pub digits_decimal : last_digits 10 k n ≡ decimal n
  unfolding decimal
  digits_decimal = digits_within (suc n) n k (omega arith) g

  pub ten_digits : n < 2 ^ 32 → k ≤ 10
  ten_digits h = go (leb k 10) refl
    where
      go : (t : Bool) → leb k 10 ≡ t → k ≤ 10
      go true e = leb-true k 10 e
      go false e =
          let more = leb-false k 10 e in
          let most : 10 ^ 10 ≤ 10 ^ (k - 1) = pow-le-pow_right {n = 10} (lit< tt) {i = 10} {j = k - 1} (omega arith) in
          absurd (omega (arith, g.2 (omega arith)))
