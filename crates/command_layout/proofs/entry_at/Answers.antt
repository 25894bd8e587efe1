use native.Mathlib.Omega.{arith}
use Rattle.command_layout.proofs.Entries.{good_offsets, wire_entry}
use Rattle.command_layout.proofs.entry_at.Goals as goal

pub entry_count-requires : goal.entry_count-requires
entry_count-requires c = omega (arith, good_offsets _ c.requires.good)

pub entry-requires : goal.entry-requires
entry-requires c = rw c.entry_count.ensures (wire_entry _ _ c.requires)

pub returns : goal.returns
returns c = rw (← c.entry_count.ensures) c.entry.ensures
