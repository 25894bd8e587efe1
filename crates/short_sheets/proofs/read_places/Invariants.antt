-- Invariant: the first i places are stored. Assumes nothing.
use lib.ListN.{length}
use Rattle.wire.proofs.Stores.{Stored}
use Rattle.short_sheets.specs.Steps.{places_in}
use Rattle.short_sheets.proofs.read_places.Given as goal

abbrev pub invariant-loop-i : goal.invariant-loop-i
invariant-loop-i l = Stored l.initial.places 0 (places_in l.alphabet l.area) (length l.area) l.places l.i
