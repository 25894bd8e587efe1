-- The rules remove the same two places. Assumes nothing.
use Rattle.take.proofs.Laws.{value_fine, both_used}
use Rattle.take.proofs.use_both.Goals as goal

pub remove-left-requires : goal.remove-left-requires
remove-left-requires c = (value_fine c.args.mark _ _ c.args.key _ c.set_current-at_value.ensures c.requires.0 c.requires.2, c.requires.1)

pub returns : goal.returns
returns c = both_used _ _ _ _ _ c.set_current-at_value.ensures _ _ c.remove-left.ensures _ _ c.remove.ensures
