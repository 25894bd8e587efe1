use mathlib.Core.Path.{◌∙◌}
use borrow.Author.Count.{below_more}
use Rattle.replay.proofs.words.words_same.Goals as goal

pub loop-i-preserved : goal.loop-i-preserved
loop-i-preserved c = below_more _ _ c.loop-i.invariant (c.if-word-word_at.false ∙ c.word_at.ensures)
