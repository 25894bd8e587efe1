-- The items are counted, and then looked at. Assumes nothing.
use borrow.Author.Rules.{rules}
use Rattle.careful_batch.proofs.Lines.{run_kinds, line_asked, none_misread, one_misread, place_small, place_next}
use Rattle.careful_batch.proofs.misread_place.Goals as goal

pub item_count-count-requires : goal.item_count-count-requires
item_count-count-requires c = search run_kinds

pub first_misread-place-requires : goal.first_misread-place-requires
first_misread-place-requires c = (search line_asked, search rules)

pub returns-then-place-count : goal.returns-then-place-count
returns-then-place-count c = search none_misread

pub overflow_cast-result : goal.overflow_cast-result
overflow_cast-result c = search (place_small, rules)

pub overflow_add-result : goal.overflow_add-result
overflow_add-result c = search (place_next, rules)

pub returns : goal.returns
returns c = one_misread _ _ _ c.item_count-count.ensures _ c.first_misread-place.ensures c.if-place-count.false
