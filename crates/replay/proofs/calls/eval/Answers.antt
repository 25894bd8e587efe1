-- The answer, then the answer slice. Assumes nothing.
use Rattle.replay.proofs.calls.eval.Goals as goal

pub returns-then-answer_same : goal.returns-then-answer_same
returns-then-answer_same c e =
    record {
      before = _;
      long = c.answer_slice-answers.ensures;
      unlisted = _;
      wide = c.list_slice-list.ensures;
      answer = _;
      answers = _;
      list = _;
      says = c.eval-ran.ensures;
      same = c.answer_same.ensures c.if-answer_same.true;
      written = c.words_same.ensures e;
    }
