-- Assumes nothing.
use Rattle.take_table.proofs.Bits.{bit_shifted}
use Rattle.take_table.proofs.only.Goals as goal

pub returns : goal.returns
returns c = bit_shifted _ c.requires
