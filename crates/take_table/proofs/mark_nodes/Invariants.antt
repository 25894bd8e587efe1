-- Invariant: the sets have the owners among the first n nodes. Assumes nothing.
use lib.ListN.{length}
use Rattle.take_table.proofs.Owners.{Adding}
use Rattle.take_table.proofs.mark_nodes.Given as goal

abbrev pub invariant-loop-n : goal.invariant-loop-n
invariant-loop-n l = Adding l.form l.count (length l.initial.owners) l.owners l.loose l.n
