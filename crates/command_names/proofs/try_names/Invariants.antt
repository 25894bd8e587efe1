-- Invariant: the entries so far are passed, so that trying those that are left equals the whole. Assumes nothing.
use Rattle.command_names.proofs.Laws.{TableLoop}
use Rattle.command_names.proofs.try_names.Given as goal

abbrev pub invariant-loop-k : goal.invariant-loop-k
invariant-loop-k l = TableLoop l.table l.sheet l.items l.initial.marks l.initial.s l.n l.marks l.s l.comparisons l.k
