-- Assumes nothing.
use Rattle.form_join.proofs.MovedLaws.{good_eight}
use Rattle.form_join.proofs.NamesRecord.count.Goals as goal

pub name_count-requires : goal.name_count-requires
name_count-requires c = good_eight _ c.requires
