-- Invariant: the records up to i are items. Assumes nothing.
use Rattle.call_table.proofs.Records.{Itemizing}
use Rattle.call_table.proofs.records_good.Given as goal

abbrev pub invariant-loop-i : goal.invariant-loop-i
invariant-loop-i l = Itemizing l.items l.n l.area l.i
