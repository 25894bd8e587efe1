-- An ASCII byte is a character by itself. Assumes nothing.
use native.Mathlib.Omega.{arith}
use Rattle.utf8.specs.Laws.{decode_ascii}
use Rattle.split_arg.proofs.letter_at.Goals as goal

pub returns-then-name-at-lt128 : goal.returns-then-name-at-lt128
returns-then-name-at-lt128 c =
    decode_ascii _ _ _ c.if-at-name.true c.from-value.ensures (omega (arith, c.from-value.ensures, c.if-name-at-lt128.true))
