-- Assumes nothing.
use mathlib.Core.Bool.{not}
use mathlib.Core.Path.{ap}
use Rattle.take_table.proofs.is_absent.Goals as goal

pub returns : goal.returns
returns c = ap not c.has.ensures
