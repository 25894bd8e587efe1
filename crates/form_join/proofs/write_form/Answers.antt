-- Each part begins where the one before it ends. Assumes nothing.
use mathlib.Core.Path.{refl}
use Rattle.form_join.proofs.JoinedLaws.{nodes_room, nodes_part, joins_on, form_written}
use Rattle.form_join.proofs.write_form.Goals as goal

pub join_records-names-requires : goal.join_records-names-requires
join_records-names-requires c = nodes_room _ _ _ _ (joins_on _ _ _ c.requires _ _ _ _ _ _ refl c.write_head-nodes.ensures)

pub write_tail-requires : goal.write_tail-requires
write_tail-requires c =
    let from = joins_on _ _ _ c.requires _ _ _ _ _ _ refl c.write_head-nodes.ensures in
    joins_on _ _ _ from.both _ _ _ _ _ _ refl (nodes_part _ _ _ _ _ _ _ from.both from.early c.join_records-names.ensures)

pub returns : goal.returns
returns c =
    let from = joins_on _ _ _ c.requires _ _ _ _ _ _ refl c.write_head-nodes.ensures in
    form_written _ _ _ _ _ _ _ _ _ c.write_head-nodes.ensures (nodes_part _ _ _ _ _ _ _ from.both from.early c.join_records-names.ensures) c.write_tail.ensures
