use mathlib.Core.Path.{refl}
use Rattle.wire.proofs.Stores.{none_stored, filled_next, filled_last}
use Rattle.wire.proofs.fill.Goals as goal

pub loop-x-init : goal.loop-x-init
loop-x-init g c = refl

pub loop-x-preserved : goal.loop-x-preserved
loop-x-preserved g c = search filled_next

pub returns-after-loop-x : goal.returns-after-loop-x
returns-after-loop-x g c = search filled_last

pub returns-else-from-out : goal.returns-else-from-out
returns-else-from-out g c = search none_stored
