-- The second's area stands behind the first's. Assumes nothing.
use Rattle.form_join.proofs.JoinedLaws.{area_first_fits, area_second_fits, both_areas}
use borrow.Author.Rules.{rules}
use Rattle.form_join.proofs.join_areas.Goals as goal

pub write_area-middle-requires : goal.write_area-middle-requires
write_area-middle-requires c = search (area_first_fits, rules)

pub write_area-requires : goal.write_area-requires
write_area-requires c = search (area_second_fits, rules)

pub returns : goal.returns
returns c = search both_areas
