-- Invariant: the records below k are good. Assumes nothing.
use mathlib.Core.Path.{◌≡◌}
use mathlib.Core.Bool.{true}
use Prim.Native.Nat.{ℕ, ◌<◌}
use Rattle.form_names.proofs.Records.{good_at}
use Rattle.form_names.proofs.names_fault.Given as goal

abbrev pub invariant-loop-k : goal.invariant-loop-k
invariant-loop-k l = (j : ℕ) → j < l.k → good_at l.records l.area l.count j ≡ true
