-- Invariant: if none differs, each case passed is told. Assumes nothing.
use Prim.Native.Nat.{ℕ, ◌+◌, ◌*◌, ◌≤◌, ◌<◌}
use Rattle.replay.specs.List.{CaseTold}
use mathlib.Core.Path.{◌≡◌}
use Rattle.replay.proofs.list.replay.Given as goal

abbrev pub invariant-loop-k : goal.invariant-loop-k
invariant-loop-k l = (l.differ ≤ l.k) × (l.differ ≡ 0 → (k : ℕ) → k < l.k → CaseTold l.list l.count (7 * k + 1))
