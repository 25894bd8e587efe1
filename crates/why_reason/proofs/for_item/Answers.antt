-- By the kind of the item. Assumes nothing.
use Rattle.why_reason.proofs.Laws.{reason_room, item_name, item_value, item_operand}
use Rattle.why_reason.proofs.for_item.Goals as goal

pub read_item-item-requires : goal.read_item-item-requires
read_item-item-requires c = search reason_room

pub returns-in-Short : goal.returns-in-Short
returns-in-Short c = search item_name

pub returns-in-ArgWord : goal.returns-in-ArgWord
returns-in-ArgWord c = search item_value

pub returns-in-Word : goal.returns-in-Word
returns-in-Word c = search item_operand
