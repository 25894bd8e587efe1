-- The answer, then the record. Assumes nothing.
use Rattle.replay.proofs.calls.get.Goals as goal

pub returns-then-answer_same : goal.returns-then-answer_same
returns-then-answer_same c e =
    record {
      got = _;
      says = c.get-got.ensures;
      same = c.answer_same.ensures c.if-answer_same.true;
      item = c.words_same.ensures e;
    }
