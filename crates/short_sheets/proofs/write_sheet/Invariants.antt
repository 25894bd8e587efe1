-- Invariant: the first k arguments are written. Assumes nothing.
use lib.ListN.{length}
use Rattle.short_sheets.proofs.Writing.{Written}
use Rattle.short_sheets.proofs.write_sheet.Given as goal

abbrev pub invariant-loop-k : goal.invariant-loop-k
invariant-loop-k l = Written (length l.initial.out) l.lengths l.area l.out l.at l.k
