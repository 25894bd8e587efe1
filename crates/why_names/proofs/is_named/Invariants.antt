-- Invariant: no node before this one has the item's name. Assumes nothing.
use Rattle.rules.specs.Sheet.{sheet_area}
use Rattle.why_names.proofs.Laws.{Unnamed}
use Rattle.why_names.proofs.is_named.Given as goal

abbrev pub invariant-loop-n : goal.invariant-loop-n
invariant-loop-n l = Unnamed l.form (sheet_area l.sheet) l.items l.i l.n
