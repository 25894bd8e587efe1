use Rattle.rules.specs.Commands.{entry_area_at}
use native.Mathlib.Omega.{arith}
use Rattle.command_layout.proofs.area_at.Goals as goal

pub returns : goal.returns
unfolding entry_area_at
returns c = omega arith
