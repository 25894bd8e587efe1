use Rattle.wire.proofs.Stores.{none_stored, part_stored}
use Rattle.wire.proofs.copy.Goals as goal

pub returns-then-at-out : goal.returns-then-at-out
returns-then-at-out g c = search part_stored

pub returns-else-at-out : goal.returns-else-at-out
returns-else-at-out g c = search none_stored
