-- 30, 29 and 28, in this order. Assumes nothing.
use Rattle.call_find.proofs.Ends.{finish_bad, finish_state, finish_node, finish_none, finish_narrow, finish_some}
use Rattle.call_find.proofs.finish.Goals as goal

pub returns-then-seen-eq1 : goal.returns-then-seen-eq1
returns-then-seen-eq1 c = search finish_bad

pub returns-then-not-good : goal.returns-then-not-good
returns-then-not-good c = search finish_state

pub returns-then-search-eq0 : goal.returns-then-search-eq0
returns-then-search-eq0 c = search finish_node

pub returns-then-seen-eq0 : goal.returns-then-seen-eq0
returns-then-seen-eq0 c = search finish_none

pub narrow-requires : goal.narrow-requires
narrow-requires c = search finish_narrow

pub returns : goal.returns
returns c = search finish_some
