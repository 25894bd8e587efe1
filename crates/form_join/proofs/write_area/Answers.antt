-- The area reaches to the end of the form. Assumes nothing.
use Rattle.form_join.proofs.MovedLaws.{good_eight}
use Rattle.form_join.proofs.WrittenLaws.{area_start_lem, area_end, area_written}
use Rattle.form_layout.proofs.Sizes.{length_counts}
use borrow.Author.Rules.{rules}
use Rattle.form_join.proofs.write_area.Goals as goal

pub area_at-start-requires : goal.area_at-start-requires
area_at-start-requires c = search length_counts

pub slice_bounds-copy-count : goal.slice_bounds-copy-count
slice_bounds-copy-count c = search (area_start_lem, rules)

pub slice_bounds-copy-start : goal.slice_bounds-copy-start
slice_bounds-copy-start c = search area_start_lem

pub area_length-requires : goal.area_length-requires
area_length-requires c = search good_eight

pub overflow_add-result : goal.overflow_add-result
overflow_add-result c = record { fits = search area_end }

pub returns : goal.returns
returns c = search area_written
