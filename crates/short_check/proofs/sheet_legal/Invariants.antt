-- Invariant: the first k arguments are legal, and the others are left. Assumes nothing.
use Rattle.short_check.proofs.Legal.{ArgumentsLeft}
use Rattle.short_check.proofs.sheet_legal.Given as goal

abbrev pub invariant-loop-k : goal.invariant-loop-k
invariant-loop-k l = ArgumentsLeft l.alphabet l.sheet l.count l.k
