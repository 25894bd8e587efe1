-- Each number is a word. Assumes nothing.
use Rattle.replay.specs.Words.{head_of}
use Rattle.replay.proofs.words.read_head.Goals as goal

pub returns : goal.returns
unfolding head_of
returns c =
    λ i. record {
      call = c.word_at.ensures i;
      word = c.word_at-word.ensures i;
      m = c.word_at-word.ensures i;
      n = c.word_at-2.ensures i;
    }
