-- A letter as a number.
use mathlib.Core.Path.{◌≡◌, ap}
use Prim.Native.Nat.{ℕ, suc, ◌+◌, ◌<◌}
use native.Mathlib.Omega.{arith}
use Rattle.std.specs.Prelude.{Option as CodeOption, Some, None}
use Rattle.why_letter.specs.Withdrawn.{letter_of, SmallLetter}
use Rattle.careful.specs.Looked.{letter_code}

pub code_none : (x : CodeOption ℕ) → x ≡ None → 0 ≡ letter_code x
unfolding letter_code
code_none x e = rw e

pub code_some : (x : CodeOption ℕ) (c : ℕ) → x ≡ Some c → c + 1 ≡ letter_code x
unfolding letter_code
code_some x c e = let n : c + 1 ≡ suc c = omega arith in rw (e, n)

pub code_small : (x : CodeOption ℕ) (c : ℕ) → x ≡ Some c → SmallLetter x → c < 1114112
code_small x c e s = s.small c (ap letter_of e)
