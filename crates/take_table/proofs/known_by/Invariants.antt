-- Invariant: the words of the first i items are there, and `all` is their union. Assumes nothing.
use lib.ListN.{length}
use Rattle.rules.specs.Sheet.{sheet_area}
use Rattle.take_table.proofs.Lookups.{Listing}
use Rattle.take_table.proofs.known_by.Given as goal

abbrev pub invariant-loop-i : goal.invariant-loop-i
invariant-loop-i l = Listing l.form (sheet_area l.sheet) l.items l.count (length l.initial.table) l.table l.all l.i
