-- Invariant: what is still to be tested gives with what was what the whole gives. Assumes nothing.
use mathlib.Core.Bool.{◌&&◌}
use mathlib.Core.Path.{◌≡◌}
use lib.ListN.{drop}
use Rattle.rules.specs.Tree.{zeros}
use Rattle.state_marks.proofs.all_zero.Given as goal

abbrev pub invariant-loop-mark : goal.invariant-loop-mark
invariant-loop-mark l = zeros l.marks ≡ (l.zero && zeros (drop l.mark-index l.marks))
