-- By what `parse_guard` decides. Assumes nothing.
use Rattle.eval_combine.proofs.Guards.{guard_refused, guard_within, guard_failed}
use Rattle.eval_combine.proofs.guard.Goals as goal

pub returns-then-ran-ne0 : goal.returns-then-ran-ne0
returns-then-ran-ne0 c = search guard_refused

pub returns-in-0 : goal.returns-in-0
returns-in-0 c = search guard_within

pub returns-in_default : goal.returns-in_default
returns-in_default c = search guard_failed
