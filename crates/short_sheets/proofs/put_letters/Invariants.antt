-- Invariant: the first i places are letters. Assumes nothing.
use Rattle.short_sheets.proofs.Writing.{Lettered}
use Rattle.short_sheets.proofs.put_letters.Given as goal

abbrev pub invariant-loop-place : goal.invariant-loop-place
invariant-loop-place l = Lettered l.alphabet l.initial.places l.places l.place-index
