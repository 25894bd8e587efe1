-- Invariant: the letters so far are in. Assumes nothing.
use Rattle.command_letters.proofs.Gathers.{Inserting}
use Rattle.command_letters.proofs.insert_all.Given as goal

abbrev pub invariant-loop-letter : goal.invariant-loop-letter
invariant-loop-letter l = Inserting l.initial.out l.n l.letters l.out l.count l.letter-index
