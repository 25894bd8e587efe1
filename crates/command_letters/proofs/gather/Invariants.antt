-- Invariant: the letters of the forms before k are in. Assumes nothing.
use Rattle.command_letters.proofs.Tables.{Gathering}
use Rattle.command_letters.proofs.gather.Given as goal

abbrev pub invariant-loop-k : goal.invariant-loop-k
invariant-loop-k l = Gathering l.table 1 l.initial.flags l.flags l.counts.flags l.k × Gathering l.table 2 l.initial.arguments l.arguments l.counts.arguments l.k
