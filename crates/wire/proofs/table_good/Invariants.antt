-- Invariant: the offsets up to k do not fall, and the last of them is known. Assumes nothing.
use Rattle.wire.proofs.Tables.{Risen}
use Rattle.wire.proofs.table_good.Given as goal

abbrev pub invariant-loop-k : goal.invariant-loop-k
invariant-loop-k l = Risen l.width l.count l.b l.last l.k
