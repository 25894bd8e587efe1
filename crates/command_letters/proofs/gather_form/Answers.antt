-- By the letters of the form, in two buffers. Assumes nothing.
use borrow.Author.Rules.{rules}
use Rattle.form_codes.proofs.NameCodes.{codes_room}
use Rattle.form_letters.proofs.Words.{letters_fit}
use Rattle.command_letters.proofs.Tables.{its_count, its_room, its_letters}
use Rattle.command_letters.proofs.gather_form.Goals as goal

pub codes-requires : goal.codes-requires
codes-requires c = search (rules, codes_room)

pub slice_bounds-its_flags-end : goal.slice_bounds-its_flags-end
slice_bounds-its_flags-end c = search (letters_fit, rules)

pub insert_all-requires : goal.insert_all-requires
insert_all-requires c = search its_room

pub slice_bounds-its_arguments-end : goal.slice_bounds-its_arguments-end
slice_bounds-its_arguments-end c = search (letters_fit, rules)

pub insert_all-requires-2 : goal.insert_all-requires-2
insert_all-requires-2 c = search its_room

pub returns : goal.returns
returns c = search its_letters

pub slice_bounds-insert_all-end : goal.slice_bounds-insert_all-end
slice_bounds-insert_all-end c = search (its_count, rules)

pub slice_bounds-insert_all-end-2 : goal.slice_bounds-insert_all-end-2
slice_bounds-insert_all-end-2 c = search (its_count, rules)
