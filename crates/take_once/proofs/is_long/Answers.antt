-- By the kind of the item. Assumes nothing.
use Rattle.take_search.proofs.Items.{long_part}
use Rattle.take_once.proofs.Names.{long_is, long_not}
use Rattle.split_arg.proofs.Tags.{tags_not_long}
use Rattle.take_once.proofs.is_long.Goals as goal

pub returns-in_default : goal.returns-in_default
returns-in_default c y e = long_not _ _ _ c.read_item-item.ensures y e _ (tags_not_long _ c.in_default.not-Long)

pub part_bytes-requires : goal.part_bytes-requires
part_bytes-requires c = long_part _ _ _ c.requires.0 _ c.read_item-item.ensures _ _ _ c.in-Long.is

pub returns : goal.returns
returns c y e = long_is _ _ _ c.read_item-item.ensures y e _ _ _ _ c.in-Long.is _ _ c.part_bytes.ensures c.part_bytes-2.ensures _ c.eq.ensures
