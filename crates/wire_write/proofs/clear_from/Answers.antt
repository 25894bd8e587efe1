-- As many zeros as the slice has bytes reach its end. Assumes nothing.
use Rattle.wire_write.proofs.Stores.{zeros_end}
use Rattle.wire_write.proofs.clear_from.Goals as goal

pub returns : goal.returns
returns c = search zeros_end
