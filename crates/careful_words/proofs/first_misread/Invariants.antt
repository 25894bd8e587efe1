-- Invariant: no place from the first to this one is misread, and its record begins at the word that is read next. Assumes nothing.
use Rattle.careful_words.proofs.Laws.{CleanTo}
use Rattle.careful_words.proofs.first_misread.Given as goal

abbrev pub invariant-loop-place : goal.invariant-loop-place
invariant-loop-place l = CleanTo l.sheet l.items l.from l.count l.place l.at
