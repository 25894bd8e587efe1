-- A field is a node, so the sum is small. Assumes nothing.
use Rattle.form_join.proofs.MovedLaws.{field_fits, field_narrow, field_there}
use Rattle.form_join.proofs.moved_field.Goals as goal

pub overflow_add-n : goal.overflow_add-n
overflow_add-n c = record { fits = search field_fits }

pub overflow_cast-result : goal.overflow_cast-result
overflow_cast-result c = record { fits = search field_narrow }

pub returns : goal.returns
returns c = search field_there
