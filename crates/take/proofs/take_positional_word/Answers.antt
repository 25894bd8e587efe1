-- From the start of the scope. Assumes nothing.
use mathlib.Core.Path.{refl}
use Rattle.take.proofs.Laws.{skip_none}
use Rattle.take.proofs.take_positional_word.Goals as goal

pub take_positional_word_from-requires : goal.take_positional_word_from-requires
take_positional_word_from-requires c = (c.requires.0, c.requires.1, skip_none _ _ _ _ _ c.requires.1.fine _ refl)
