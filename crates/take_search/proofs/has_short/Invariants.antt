-- Invariant: what is left decides. Assumes nothing.
use Rattle.take_search.proofs.NameLaws.{Sifting}
use Rattle.take_search.proofs.has_short.Given as goal

abbrev pub invariant-loop-code : goal.invariant-loop-code
invariant-loop-code l = Sifting l.code-items l.want l.code-index
