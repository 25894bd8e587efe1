-- By the kind, the length and the first byte. Assumes nothing.
use Rattle.careful_words.proofs.Laws.{looks_other, looks_short_word, byte_there, byte_fits, looks_byte}
use borrow.Author.Rules.{rules}
use mathlib.Core.Path.{refl}
use Rattle.careful_words.proofs.looks_like_options.Goals as goal

pub returns-then-items-at-ne-WORD : goal.returns-then-items-at-ne-WORD
returns-then-items-at-ne-WORD c = search looks_other

pub returns-then-items-at-lt2 : goal.returns-then-items-at-lt2
returns-then-items-at-lt2 c = search looks_short_word

pub overflow_add-result-2 : goal.overflow_add-result-2
overflow_add-result-2 c = search (byte_fits, rules)

pub bounds-sheet-area : goal.bounds-sheet-area
bounds-sheet-area c = search byte_there

pub returns : goal.returns
returns c = looks_byte _ _ _ _ c.if-items-at-ne-WORD.false c.if-items-at-lt2.false _ c.requires.2 _ refl _ refl
