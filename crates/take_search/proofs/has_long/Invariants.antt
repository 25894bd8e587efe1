-- Invariant: what is left decides. Assumes nothing.
use Prim.Native.Nat.{◌+◌}
use Rattle.take_search.proofs.NameLaws.{Scanning}
use Rattle.take_search.proofs.has_long.Given as goal

abbrev pub invariant-loop-k : goal.invariant-loop-k
invariant-loop-k l = Scanning l.form l.name l.first l.count (l.first + l.count) l.k
