-- By the item and the one before it. Assumes nothing.
use mathlib.Core.Path.{refl}
use Rattle.careful_words.proofs.Laws.{looks_plain, looks_word_lem}
use Rattle.careful_words.proofs.is_misread.Goals as goal

pub returns-then-looks_like_options : goal.returns-then-looks_like_options
returns-then-looks_like_options c =
    looks_word_lem _ _ _ _ c.requires.1 _ c.looks_like_options.ensures c.if-looks_like_options.true _ refl _ c.is_rest.ensures

pub returns-else-looks_like_options : goal.returns-else-looks_like_options
returns-else-looks_like_options c = looks_plain _ _ _ _ c.requires.1 _ c.looks_like_options.ensures c.if-looks_like_options.false
