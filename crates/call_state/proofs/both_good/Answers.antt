-- The first state decides, then the second. Assumes nothing.
use mathlib.Core.Bool.{not}
use mathlib.Core.Path.{refl, ap}
use Rattle.call_state.proofs.Entries.{first_bad, second_decides}
use Rattle.call_state.proofs.both_good.Goals as goal

pub returns-then-good : goal.returns-then-good
returns-then-good c = second_decides _ _ _ refl c.good.ensures _ (ap not c.if-good.true) _ c.good-then-good.ensures

pub returns-else-good : goal.returns-else-good
returns-else-good c = rw c.if-good.false (first_bad _ _ _ refl c.good.ensures _ (ap not c.if-good.false))
