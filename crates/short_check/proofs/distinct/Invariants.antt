-- Invariant: no byte before i stands twice, and those from i on are left. Assumes nothing.
use mathlib.Core.Path.{◌≡◌}
use lib.ListN.{drop}
use Rattle.rules_short.specs.Short.{distinct}
use Rattle.short_check.proofs.distinct.Given as goal

abbrev pub invariant-loop-i : goal.invariant-loop-i
invariant-loop-i l = distinct l.alphabet ≡ distinct (drop l.i l.alphabet)
