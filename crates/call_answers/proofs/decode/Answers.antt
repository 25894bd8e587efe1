-- The record is that of the enum's case; a size is at most 4, so it fits 32 bits. Assumes nothing.
use mathlib.Core.Path.{sym, ◌∙◌, ap}
use native.Mathlib.Omega.{arith}
use Rattle.utf8.specs.Laws.{character}
use Rattle.call_answers.specs.Answers.{decoding}
use Rattle.call_answers.proofs.decode.Goals as goal

pub overflow_cast-result : goal.overflow_cast-result
overflow_cast-result c = omega (arith, character _ _ _ (sym c.decode_at-d.ensures ∙ c.in-Some.is))

pub returns-in-Some : goal.returns-in-Some
returns-in-Some c = ap decoding (sym c.in-Some.is ∙ c.decode_at-d.ensures)

pub returns-in-None : goal.returns-in-None
returns-in-None c = ap decoding (sym c.in-None.is ∙ c.decode_at-d.ensures)
