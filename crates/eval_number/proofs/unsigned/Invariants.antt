-- Invariant: the rest is read on from the value of the digits passed, which is no larger than the largest number. Assumes nothing.
use mathlib.Core.Path.{◌≡◌}
use Prim.Native.Nat.{◌≤◌}
use lib.ListN.{drop}
use Rattle.eval_number.specs.Number.{read_on}
use Rattle.eval_number.proofs.unsigned.Given as goal

abbrev pub invariant-loop-b : goal.invariant-loop-b
invariant-loop-b l = record { small : l.n ≤ 4294967295; same : read_on 0 l.digits ≡ read_on l.n (drop l.b-index l.digits) }
