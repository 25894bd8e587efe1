-- By the type of the record. Assumes nothing.
use Rattle.take_search.proofs.NameLaws.{not_long_lem, long_same}
use Rattle.take_search.proofs.is_long.Goals as goal

pub returns-then-x-eq1 : goal.returns-then-x-eq1
returns-then-x-eq1 c = search long_same

pub returns-else-x-eq1 : goal.returns-else-x-eq1
returns-else-x-eq1 c = search not_long_lem
