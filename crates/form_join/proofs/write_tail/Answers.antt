-- The areas begin where the names end. Assumes nothing.
use mathlib.Core.Path.{refl}
use Rattle.form_join.proofs.JoinedLaws.{names_room, names_part, joins_on, tail_written}
use Rattle.form_join.proofs.write_tail.Goals as goal

pub join_records-area-requires : goal.join_records-area-requires
join_records-area-requires c = names_room _ _ _ _ c.requires

pub join_areas-requires : goal.join_areas-requires
join_areas-requires c =
    joins_on _ _ _ c.requires.both _ _ _ _ _ _ refl (names_part _ _ _ _ _ _ _ c.requires.both c.requires.early c.join_records-area.ensures)

pub returns : goal.returns
returns c =
    tail_written _ _ _ _ _ _ _ _ (names_part _ _ _ _ _ _ _ c.requires.both c.requires.early c.join_records-area.ensures) c.join_areas.ensures
