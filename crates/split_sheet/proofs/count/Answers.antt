-- A checked sheet has two bytes. Assumes nothing.
use native.Mathlib.Omega.{arith}
use Rattle.rules.specs.Sheet.{argument_count}
use Rattle.rules.proofs.Formats.{good_sheet}
use Rattle.split_sheet.proofs.count.Goals as goal

pub u16_at-requires : goal.u16_at-requires
u16_at-requires c = omega (arith, good_sheet _ c.requires)

pub returns : goal.returns
unfolding argument_count
returns c = c.u16_at.ensures
