-- By the number of the record, and then by the place. Assumes nothing.
use borrow.Author.Rules.{rules}
use Rattle.careful_batch.proofs.Parts.{holds_words, refused_stays, has_run, clean_stays, misread_looked}
use Rattle.careful_batch.proofs.look_part.Goals as goal

pub returns-then-records-at-ne0 : goal.returns-then-records-at-ne0
returns-then-records-at-ne0 c = search refused_stays

pub misread_place-place-requires : goal.misread_place-place-requires
misread_place-place-requires c = search has_run

pub returns-then-place-eq0 : goal.returns-then-place-eq0
returns-then-place-eq0 c = search clean_stays

pub refuse_part-requires : goal.refuse_part-requires
refuse_part-requires c = search (holds_words, rules)

pub returns : goal.returns
returns c = search misread_looked
