use mathlib.Core.Path.{sym, ◌∙◌}
use native.Mathlib.Omega.{arith}
use Rattle.utf8.specs.Laws.{character}
use Rattle.split_group.proofs.Flags.{wrote_none, wrote_more, wrote_all, letter_there}
use Rattle.split_group.proofs.write_flags.Goals as goal

pub loop-k-init : goal.loop-k-init
loop-k-init c = wrote_none _ _ _ _ _ c.requires.0

pub returns-in_default : goal.returns-in_default
returns-in_default c = letter_there _ _ _ _ _ _ _ _ _ c.loop-k.invariant c.requires.0.few c.loop-k-test.true (sym c.letter_at.ensures ∙ c.in_default.is)

pub overflow_add-at : goal.overflow_add-at
overflow_add-at c = omega (arith, c.requires.1)

pub store_item-requires : goal.store_item-requires
store_item-requires c = omega (arith, c.requires.1)

pub overflow_add-place : goal.overflow_add-place
overflow_add-place c = omega (arith, character _ _ _ (sym c.letter_at.ensures ∙ c.in-Some.is))

pub loop-k-preserved : goal.loop-k-preserved
loop-k-preserved c = wrote_more _ _ _ _ _ _ _ _ _ c.loop-k.invariant _ _ (sym c.letter_at.ensures ∙ c.in-Some.is) c.loop-k-test.true c.store_item.ensures

pub returns : goal.returns
returns c = wrote_all _ _ _ _ _ _ _ _ _ c.loop-k.invariant c.loop-k-test.false
