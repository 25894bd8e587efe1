use borrow.Author.Rules.{rules}
use mathlib.Core.Logic.{inl}
use mathlib.Core.Path.{refl}
use Rattle.careful_words.proofs.Laws.{line_made, line_start, start_is, clean_from, is_record, clean_on, found_at, found_end}
use Rattle.careful_words.proofs.first_misread.Goals as goal

pub count-requires : goal.count-requires
count-requires c = search line_made

pub area_start-area-requires : goal.area_start-area-requires
area_start-area-requires c = (inl refl, search line_start)

pub loop-place-init : goal.loop-place-init
loop-place-init c = search clean_from

pub is_misread-requires : goal.is_misread-requires
is_misread-requires c = (search rules, search is_record, search start_is)

pub returns-then-is_misread : goal.returns-then-is_misread
returns-then-is_misread c = search found_at

pub loop-place-preserved : goal.loop-place-preserved
loop-place-preserved c = search clean_on

pub returns : goal.returns
returns c = search found_end
