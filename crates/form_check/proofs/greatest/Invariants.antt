-- Invariant: the greatest is that of `most` and of what is left. Assumes nothing.
use mathlib.Core.Path.{◌≡◌}
use Prim.Native.Nat.{max}
use lib.ListN.{drop}
use Rattle.form_check.specs.Uses.{greatest}
use Rattle.form_check.proofs.greatest.Given as goal

abbrev pub invariant-loop-c : goal.invariant-loop-c
invariant-loop-c l = greatest l.codes ≡ max l.most (greatest (drop l.c-index l.codes))
