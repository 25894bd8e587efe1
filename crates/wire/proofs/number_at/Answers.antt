-- A width that is not 2 is 4. Assumes nothing.
use native.Mathlib.Omega.{arith}
use Rattle.wire.specs.Laws.{wider}
use Rattle.wire.proofs.number_at.Goals as goal

pub returns-then-width-eq2 : goal.returns-then-width-eq2
returns-then-width-eq2 c = cc

pub u32_at-requires : goal.u32_at-requires
u32_at-requires c = omega (arith, wider c.requires.0 c.if-width-eq2.false)

pub returns : goal.returns
returns c = cc (wider c.requires.0 c.if-width-eq2.false)
