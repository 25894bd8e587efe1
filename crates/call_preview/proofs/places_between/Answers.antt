-- The first place, and the next; few says that there is no third. Assumes nothing.
use borrow.Author.Rules.{rules}
use Rattle.call_preview.proofs.Laws.{no_places, one_place, two_places}
use Rattle.call_preview.proofs.places_between.Goals as goal

pub returns-then-lower-eq-MARKS : goal.returns-then-lower-eq-MARKS
returns-then-lower-eq-MARKS c = search no_places

pub next_used-upper-requires : goal.next_used-upper-requires
next_used-upper-requires c = (search rules, search rules)

pub returns-then-upper-eq-MARKS : goal.returns-then-upper-eq-MARKS
returns-then-upper-eq-MARKS c = search one_place

pub returns : goal.returns
returns c = search two_places
