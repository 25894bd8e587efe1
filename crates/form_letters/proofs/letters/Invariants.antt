-- Invariant: the letters of the records below k are written. Assumes nothing.
use Rattle.form_letters.proofs.Words.{Written}
use Rattle.form_letters.proofs.letters.Given as goal

abbrev pub invariant-loop-k : goal.invariant-loop-k
invariant-loop-k l = Written l.form 1 l.initial.flags l.flags l.flag_count l.k × Written l.form 2 l.initial.arguments l.arguments l.argument_count l.k
