use Rattle.rules.specs.Commands.{entry_form_at}
use native.Mathlib.Omega.{arith}
use Rattle.command_layout.proofs.Entries.{area_part}
use Rattle.command_layout.proofs.area_of.Goals as goal

pub slice_bounds-result-count : goal.slice_bounds-result-count
unfolding entry_form_at
slice_bounds-result-count c = omega arith

pub slice_bounds-result-start : goal.slice_bounds-result-start
unfolding entry_form_at
slice_bounds-result-start c = omega arith

pub returns : goal.returns
returns c = search area_part
