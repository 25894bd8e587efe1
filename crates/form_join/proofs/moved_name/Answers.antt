-- The offset lies in the area, so there is room to move it. Assumes nothing.
use Rattle.form_join.proofs.MovedLaws.{offset_fits, name_there}
use Rattle.form_join.proofs.moved_name.Goals as goal

pub overflow_add-result : goal.overflow_add-result
overflow_add-result c = record { fits = search offset_fits }

pub returns : goal.returns
returns c = search name_there
