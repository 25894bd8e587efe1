-- Invariant: what is still to be tested gives what the whole gives. Assumes nothing.
use mathlib.Core.Path.{◌≡◌}
use lib.ListN.{drop}
use Rattle.rules.specs.Base.{all}
use Rattle.rules.specs.State.{used_below, mark_good}
use Rattle.state_marks.proofs.marks_good.Given as goal

abbrev pub invariant-loop-mark : goal.invariant-loop-mark
invariant-loop-mark l =
    all (mark_good (used_below l.fields) l.count) l.marks ≡ all (mark_good (used_below l.fields) l.count) (drop l.mark-index l.marks)
