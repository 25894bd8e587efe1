-- By whether there is a character; its size is at most 4. Assumes nothing.
use Rattle.replay.proofs.Told.{utf8_told}
use Rattle.utf8.specs.Laws.{character}
use mathlib.Core.Path.{sym, ◌∙◌}
use native.Mathlib.Omega.{arith}
use Rattle.replay.proofs.cases.utf8.Goals as goal

pub overflow_cast-told : goal.overflow_cast-told
overflow_cast-told c = omega (arith, character _ _ _ (sym c.decode_at-first.ensures ∙ c.in-Some.is))

pub returns-in-Some : goal.returns-in-Some
returns-in-Some c e = utf8_told _ _ _ c.valid.ensures _ c.flag-valid.ensures _ c.decode_at-first.ensures _ c.in-Some.is (c.words_same.ensures e)

pub returns-in-None : goal.returns-in-None
returns-in-None c e = utf8_told _ _ _ c.valid.ensures _ c.flag-valid.ensures _ c.decode_at-first.ensures _ c.in-None.is (c.words_same-in-None.ensures e)
