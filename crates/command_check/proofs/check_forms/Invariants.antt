-- Invariant: the forms below k are accepted.
use Prim.Native.Nat.{◌≤◌}
use Rattle.command_check.proofs.Steps.{Accepts}
use Rattle.command_check.proofs.check_forms.Given as goal

abbrev pub invariant-loop-k : goal.invariant-loop-k
invariant-loop-k l = (l.n ≤ 32) × Accepts l.table l.k
