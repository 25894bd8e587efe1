-- Either test. Assumes nothing.
use Rattle.eval_shortcut.proofs.OneSide.{stays_undone, stays_missing, undone_stays, missing_stays}
use Rattle.eval_shortcut.proofs.stays.Goals as goal

pub returns-then-undoes-clause-value : goal.returns-then-undoes-clause-value
returns-then-undoes-clause-value c = rw c.if-undoes.true (stays_undone _ _ _ _ c.undoes.ensures c.if-undoes.true)

pub returns-then-undoes-clause-stays : goal.returns-then-undoes-clause-stays
returns-then-undoes-clause-stays c = λ _. undone_stays _ _ _ _ c.undoes.ensures c.if-undoes.true

pub returns-else-undoes-clause-value : goal.returns-else-undoes-clause-value
returns-else-undoes-clause-value c = stays_missing _ _ _ _ c.undoes.ensures c.if-undoes.false _ c.is_missing.ensures.value

pub returns-else-undoes-clause-stays : goal.returns-else-undoes-clause-stays
returns-else-undoes-clause-stays c = λ e. missing_stays _ _ _ (c.is_missing.ensures.misses e)
