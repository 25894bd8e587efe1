use Rattle.call_check.proofs.Splits.{refused_splitting}
use Rattle.call_check.proofs.split_refused.Goals as goal

pub returns : goal.returns
returns c = rw c.told-r.ensures (refused_splitting _ _ _ _ c.fill.ensures)
