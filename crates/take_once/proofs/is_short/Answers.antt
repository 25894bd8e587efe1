-- By the kind of the item. Assumes nothing.
use Rattle.take_once.proofs.Names.{short_is, short_not}
use Rattle.split_arg.proofs.Tags.{tags_not_short}
use Rattle.take_once.proofs.is_short.Goals as goal

pub returns-in_default : goal.returns-in_default
returns-in_default c area y e = short_not _ _ _ c.read_item-item.ensures y e _ (tags_not_short _ c.in_default.not-Short)

pub returns : goal.returns
returns c area y e = short_is _ _ _ c.read_item-item.ensures y e _ _ _ _ c.in-Short.is
