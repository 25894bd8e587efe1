-- Invariant: the records from i on are all 0. Assumes nothing.
use Rattle.call_table.proofs.Records.{Trimming}
use Rattle.call_table.proofs.trimmed_count.Given as goal

abbrev pub invariant-loop-i : goal.invariant-loop-i
invariant-loop-i l = Trimming l.items l.i
