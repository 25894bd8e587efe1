-- Invariant: the byte is among those that are left if it is in the alphabet. Assumes nothing.
use mathlib.Core.Path.{◌≡◌}
use lib.ListN.{drop}
use Rattle.rules.specs.Base.{contains}
use Rattle.short_check.proofs.has.Given as goal

abbrev pub invariant-loop-y : goal.invariant-loop-y
invariant-loop-y l = contains l.alphabet l.x ≡ contains (drop l.y-index l.alphabet) l.x
