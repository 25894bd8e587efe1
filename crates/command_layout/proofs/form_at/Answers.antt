use Rattle.rules.specs.Commands.{entry_area_at, entry_form_at}
use native.Mathlib.Omega.{arith}
use Rattle.command_layout.proofs.form_at.Goals as goal

pub overflow_add-result : goal.overflow_add-result
unfolding entry_area_at
overflow_add-result c = omega arith

pub returns : goal.returns
unfolding entry_form_at
returns c = omega arith
