-- The winner, the earlier place, then the item. Assumes nothing.
use Rattle.why_reason.proofs.Laws.{left_names, left_place_lem, left_coded, left_small, found_winner, found_earlier, found_item}
use borrow.Author.Rules.{rules}
use Rattle.why_reason.proofs.find_reason.Goals as goal

pub earlier-earlier-requires : goal.earlier-earlier-requires
earlier-earlier-requires c = search left_place_lem

pub returns-in-Some : goal.returns-in-Some
returns-in-Some c = search found_winner

pub overflow_cast-earlier : goal.overflow_cast-earlier
overflow_cast-earlier c = search (left_small, rules)

pub returns-then-earlier-ne0 : goal.returns-then-earlier-ne0
returns-then-earlier-ne0 c = search found_earlier

pub codes_of-codes-requires : goal.codes_of-codes-requires
codes_of-codes-requires c = search left_names

pub for_item-requires : goal.for_item-requires
for_item-requires c = search left_coded

pub returns : goal.returns
returns c = search found_item
