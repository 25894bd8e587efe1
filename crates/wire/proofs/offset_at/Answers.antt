-- Offset k ends where the area of a table of k entries would start. Assumes nothing.
use native.Mathlib.Omega.{arith}
use Rattle.wire.specs.Wire.{offset}
use Rattle.wire.specs.Laws.{offset_end}
use Rattle.wire.proofs.offset_at.Goals as goal

pub overflow_mul-width : goal.overflow_mul-width
overflow_mul-width c = omega (arith, offset_end c.args.width c.args.k)

pub overflow_add-width : goal.overflow_add-width
overflow_add-width c = omega (arith, offset_end c.args.width c.args.k)

pub number_at-requires : goal.number_at-requires
number_at-requires c = (c.requires.0, omega (arith, offset_end c.args.width c.args.k))

pub returns : goal.returns
unfolding offset
returns c = c.number_at.ensures
