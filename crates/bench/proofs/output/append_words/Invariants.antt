-- A line each turn. Assumes nothing.
use Rattle.bench.proofs.Appending.{Worded}
use Rattle.bench.proofs.output.append_words.Given as goal

abbrev pub invariant-loop-word : goal.invariant-loop-word
invariant-loop-word l = Worded l.initial.out l.at l.words l.out l.end l.word-index
