-- Invariant: the names so far are passed, so that trying those that are left equals the whole. Assumes nothing.
use Rattle.command_names.proofs.Laws.{KindLoop}
use Rattle.command_names.proofs.try_kind.Given as goal

abbrev pub invariant-loop-k : goal.invariant-loop-k
invariant-loop-k l = KindLoop l.entry l.sheet l.items l.initial.marks l.initial.s l.number l.kind l.n l.marks l.s l.comparisons l.k
