-- Word by word, and then the answers. Assumes nothing.
use borrow.Author.Rules.{rules}
use mathlib.Core.Path.{refl}
use Rattle.batch_parts.proofs.Slices.{part_inside}
use Rattle.careful_batch.proofs.Parts.{record_refused, words_cleared}
use Rattle.careful_batch.proofs.refuse_part.Goals as goal

pub bounds-records-at-3 : goal.bounds-records-at-3
bounds-records-at-3 c = search (part_inside, rules)

pub bounds-records-at-4 : goal.bounds-records-at-4
bounds-records-at-4 c = search (part_inside, rules)

pub returns : goal.returns
returns c =
    record {
      replaced = record_refused _ _ _ _ _ c.number.ensures c.requires.0 refl;
      replaced_2 = words_cleared _ _ _ _ _ c.requires.1 c.requires.2 c.wide-words.ensures c.fill.ensures;
    }
