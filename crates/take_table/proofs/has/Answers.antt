-- Assumes nothing.
use mathlib.Core.Path.{refl}
use Rattle.take_table.specs.Bits.{bit_at}
use Rattle.take_table.proofs.has.Goals as goal

pub returns : goal.returns
unfolding bit_at
returns c = refl
