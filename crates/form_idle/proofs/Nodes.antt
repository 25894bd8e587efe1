-- A node, by the tests of the code.
use mathlib.Core.Bool.{Bool, false}
use mathlib.Core.List.{List}
use mathlib.Core.Path.{◌≡◌, refl, ◌∙◌}
use Prim.Native.Nat.{ℕ, ◌*◌, ◌%◌, ◌^◌, ◌≤◌, ◌<◌}
use native.Mathlib.Nat.{zero-lt-suc, one-mul}
use native.Mathlib.Omega.{arith}
use lib.ListN.{length, get_or-eq_default}
use lib.Pow.{pow-lt, shl_exact}
use Rattle.form_idle.specs.Idles.{said_in}

-- the table and a bit
pub unsaid : (table : List Bool) (n : ℕ) → length table ≡ 64 → 64 ≤ n → false ≡ said_in table n
unfolding said_in
unsaid table n e h = rw (get_or-eq_default table false {n = n} (omega (arith, e, h))) refl

pub bit_is : (n : ℕ) → n < 64 → 1 * 2 ^ n % 2 ^ 64 ≡ 2 ^ n
bit_is n h = shl_exact 1 n 64 (pow-lt (zero-lt-suc 0)) (omega arith) ∙ one-mul (2 ^ n)
