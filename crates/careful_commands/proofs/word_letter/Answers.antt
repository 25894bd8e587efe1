-- By the item, and for a Word by the letters of all forms. Assumes nothing.
use Rattle.command_letters.proofs.Tables.{all_room}
use Rattle.careful_commands.proofs.Letters.{place_room, told_other, place_part, told_word}
use Rattle.split_arg.proofs.Tags.{tags_not_word}
use borrow.Author.Rules.{rules}
use Rattle.careful_commands.proofs.word_letter.Goals as goal

pub read_item-item-requires : goal.read_item-item-requires
read_item-item-requires c = search place_room

pub returns-in_default : goal.returns-in_default
returns-in_default c =
    let left = tags_not_word c.read_item-item.result c.in_default.not-Word in
    search told_other

pub gather-counts-requires : goal.gather-counts-requires
gather-counts-requires c = search (all_room, rules)

pub part_bytes-os-requires : goal.part_bytes-os-requires
part_bytes-os-requires c = search place_part

pub returns : goal.returns
returns c = search told_word
