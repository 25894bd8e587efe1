use native.Mathlib.Omega.{arith}
use Rattle.batch_check.proofs.Sheets.{good_batch, sheet_entry}
use Rattle.batch_check.proofs.sheet_at.Goals as goal

pub sheet_count-n-requires : goal.sheet_count-n-requires
sheet_count-n-requires c = omega (arith, good_batch _ c.requires.good)

pub entry-requires : goal.entry-requires
entry-requires c = rw c.sheet_count-n.ensures (sheet_entry _ _ c.requires)

pub returns : goal.returns
returns c = rw (← c.sheet_count-n.ensures) c.entry.ensures
