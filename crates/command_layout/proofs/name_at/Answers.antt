use lib.ListN.{length-drop}
use Rattle.rules.specs.Commands.{entry_area_at, entry_form_at}
use native.Mathlib.Omega.{arith}
use Rattle.command_layout.proofs.Entries.{record_there}
use Rattle.command_layout.proofs.name_at.Goals as goal

pub record_at-requires : goal.record_at-requires
unfolding entry_area_at entry_form_at
record_at-requires c = omega (arith, length-drop 4 c.args.entry.now)

pub returns : goal.returns
returns c = record_there _ _ _ c.requires.below c.record_at.ensures
