-- Invariant: no place from j on, below this one, has its name. Assumes nothing.
use Rattle.rules.specs.Sheet.{sheet_area}
use Rattle.take_once.proofs.Names.{Looking}
use Rattle.take_once.proofs.earlier.Given as goal

abbrev pub invariant-loop-j : goal.invariant-loop-j
invariant-loop-j l = Looking (sheet_area l.sheet) l.items l.place l.j
