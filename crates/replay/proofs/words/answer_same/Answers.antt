-- The numbers, then the state. Assumes nothing.
use Rattle.replay.proofs.words.answer_same.Goals as goal

pub returns-then-words_same : goal.returns-then-words_same
returns-then-words_same c e = record { numbers = c.words_same.ensures c.if-words_same.true; state = c.state_same.ensures e }
