-- Assumes nothing.
use Rattle.form_join.proofs.MovedLaws.{good_eight}
use Rattle.form_join.proofs.FieldsRecord.count.Goals as goal

pub field_count-requires : goal.field_count-requires
field_count-requires c = good_eight _ c.requires
