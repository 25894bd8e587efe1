-- Sets of numbers below 64 as the bits of a word.
use Rattle.std.specs.Prelude.{Bool, ℕ, ◌/◌, ◌%◌, ◌^◌, eqb}

unfoldable pub bit_at : ℕ → ℕ → Bool
bit_at w n = eqb (w / 2 ^ n % 2) 1
