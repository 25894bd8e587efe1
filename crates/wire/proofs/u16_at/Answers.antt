-- Assumes nothing.
use Rattle.wire.specs.Laws.{number_two}
use Rattle.wire.proofs.u16_at.Goals as goal

pub returns : goal.returns
returns c = search number_two
