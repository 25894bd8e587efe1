-- A word that is there whole, or 0. Assumes nothing.
use borrow.Author.Tests.{le-ltb, lt-ltb}
use Rattle.replay.specs.Words.{word_at}
use Rattle.replay.proofs.words.word_at.Goals as goal

pub returns-then-part-k : goal.returns-then-part-k
unfolding word_at
returns-then-part-k c = rw (le-ltb _ _ c.if-part-k.true)

pub returns : goal.returns
unfolding word_at
returns c = rw (lt-ltb _ _ c.if-part-k.false) c.u32_at.ensures
