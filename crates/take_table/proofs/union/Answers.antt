-- Assumes nothing.
use Rattle.take_table.proofs.Bits.{bit_or_lem}
use Rattle.take_table.proofs.union.Goals as goal

pub returns : goal.returns
returns c = bit_or_lem _ _
