-- Invariant: the first `=` from here on is that of the whole. Assumes nothing.
use mathlib.Core.Path.{◌≡◌}
use Rattle.split_arg.specs.Parts.{equals_from}
use Rattle.split_arg.proofs.find_equals.Given as goal

abbrev pub invariant-loop-i : goal.invariant-loop-i
invariant-loop-i l = equals_from l.os l.from ≡ equals_from l.os l.i
