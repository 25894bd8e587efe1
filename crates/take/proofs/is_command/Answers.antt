-- By the kind of the item. Assumes nothing.
use Rattle.take.proofs.Texts.{text_part_lem, no_command, a_command}
use Rattle.take.proofs.is_command.Goals as goal

pub returns-else-is_compared : goal.returns-else-is_compared
returns-else-is_compared c = no_command c.args.sheet.now c.args.items.now c.args.i _ c.read_item-item.ensures c.args.word.now _ c.is_compared.ensures c.if-is_compared.false

pub part_bytes-requires : goal.part_bytes-requires
part_bytes-requires c = text_part_lem c.args.sheet.now c.args.items.now c.args.i _ c.read_item-item.ensures c.requires _ c.text_of.ensures

pub returns-then-is_compared : goal.returns-then-is_compared
returns-then-is_compared c =
    a_command c.args.sheet.now c.args.items.now c.args.i _ c.read_item-item.ensures c.args.word.now _ c.is_compared.ensures c.if-is_compared.true _
    c.text_of.ensures _ c.part_bytes.ensures _ c.eq.ensures
