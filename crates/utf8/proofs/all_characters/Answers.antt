use mathlib.Core.Path.{refl, sym, ◌∙◌}
use native.Mathlib.Omega.{arith}
use Rattle.utf8.specs.Laws.{character, decode_ascii, well_formed_end, well_formed_char, well_formed_bad}
use Rattle.utf8.proofs.all_characters.Goals as goal

pub loop-at-preserved-then-s-at-lt128 : goal.loop-at-preserved-then-s-at-lt128
loop-at-preserved-then-s-at-lt128 c = c.loop-at.invariant ∙ well_formed_char _ _ _ (sym (decode_ascii _ _ _ c.loop-at-test.true refl c.if-s-at-lt128.true))

pub returns-in_default : goal.returns-in_default
returns-in_default c = sym (c.loop-at.invariant ∙ well_formed_bad _ _ c.loop-at-test.true (sym c.decode_at.ensures ∙ c.in_default.is))

pub overflow_add-at-in-loop-at : goal.overflow_add-at-in-loop-at
overflow_add-at-in-loop-at c = omega (arith, character _ _ _ (sym c.decode_at.ensures ∙ c.in-Some.is))

pub loop-at-smaller : goal.loop-at-smaller
loop-at-smaller c = omega (arith, character _ _ _ (sym c.decode_at.ensures ∙ c.in-Some.is))

pub loop-at-preserved : goal.loop-at-preserved
loop-at-preserved c = c.loop-at.invariant ∙ well_formed_char _ _ _ (sym c.decode_at.ensures ∙ c.in-Some.is)

pub returns : goal.returns
returns c = sym (c.loop-at.invariant ∙ well_formed_end _ _ c.loop-at-test.false)
