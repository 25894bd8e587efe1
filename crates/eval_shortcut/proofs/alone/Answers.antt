-- Both tests. Assumes nothing.
use Rattle.eval_shortcut.proofs.OneSide.{alone_other, alone_not}
use Rattle.eval_shortcut.proofs.alone.Goals as goal

pub returns-then-stays-clause-value : goal.returns-then-stays-clause-value
returns-then-stays-clause-value c = alone_other _ _ _ _ _ c.stays.ensures.value c.if-stays.true _ c.is_missing.ensures.value

pub returns-else-stays-clause-value : goal.returns-else-stays-clause-value
returns-else-stays-clause-value c = rw c.if-stays.false (alone_not _ _ _ _ _ c.stays.ensures.value c.if-stays.false)
