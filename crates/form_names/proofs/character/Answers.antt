-- One character that takes all the bytes. Assumes nothing.
use mathlib.Core.Path.{sym, ◌∙◌, ap}
use Prim.Native.Nat.{◌+◌}
use native.Mathlib.Omega.{arith}
use Rattle.utf8.specs.Laws.{character}
use Rattle.form_names.proofs.Records.{character_ascii, character_bad, character_one, character_more}
use Rattle.form_names.proofs.character.Goals as goal

pub returns-then-s-lt128 : goal.returns-then-s-lt128
returns-then-s-lt128 c = ap (λ n. n + 1) c.from.ensures ∙ character_ascii _ c.if-s-eq1.true c.if-s-lt128.true

pub overflow_add-result-in-Some : goal.overflow_add-result-in-Some
overflow_add-result-in-Some c = omega (arith, character _ _ _ (sym c.decode_at.ensures ∙ c.in-Some.is))

pub returns-in-Some : goal.returns-in-Some
returns-in-Some c = search character_one

pub returns-in_default : goal.returns-in_default
returns-in_default c = search character_more

pub returns-in_default-2 : goal.returns-in_default-2
returns-in_default-2 c = search character_bad
