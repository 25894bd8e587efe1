-- By the item, and for a Word that is a whole argument by its letters. Assumes nothing.
use Rattle.form_letters.proofs.Words.{letters_fit}
use Rattle.why_letter.proofs.Clusters.{explain_names, explain_room, explain_before, buffers_told, unknown_other, word_part_lem, unknown_rest, unknown_word}
use Rattle.split_arg.proofs.Tags.{tags_not_word}
use borrow.Author.Rules.{rules}
use Rattle.why_letter.proofs.unknown_letter.Goals as goal

pub read_item-item-requires : goal.read_item-item-requires
read_item-item-requires c = search explain_room

pub returns-in_default : goal.returns-in_default
returns-in_default c =
    let left = tags_not_word c.read_item-item.result c.in_default.not-Word in
    search unknown_other

pub is_rest-requires : goal.is_rest-requires
is_rest-requires c = search explain_before

pub returns-then-is_rest : goal.returns-then-is_rest
returns-then-is_rest c = search unknown_rest

pub letters-counts-requires : goal.letters-counts-requires
letters-counts-requires c = (search explain_names, search rules)

pub part_bytes-os-requires : goal.part_bytes-os-requires
part_bytes-os-requires c = search word_part_lem

pub slice_bounds-letters-end : goal.slice_bounds-letters-end
slice_bounds-letters-end c = search (letters_fit, explain_names, rules)

pub slice_bounds-letters-end-2 : goal.slice_bounds-letters-end-2
slice_bounds-letters-end-2 c = search (letters_fit, explain_names, rules)

pub returns : goal.returns
returns c = search (unknown_word, buffers_told)
