-- A name of another type is passed; one of this type is as `take_cmd` says. Assumes nothing.
use borrow.Author.Rules.{rules}
use Rattle.command_names.proofs.Laws.{can_fit, can_record, can_take, number_fits, code_fits, name_fits, name_other, name_taken, name_passed}
use Rattle.command_names.proofs.try_name.Goals as goal

pub name_at-name-requires : goal.name_at-name-requires
name_at-name-requires c = search can_record

pub returns-then-name-kind : goal.returns-then-name-kind
returns-then-name-kind c = search name_other

pub area_of-requires : goal.area_of-requires
area_of-requires c = search can_fit

pub bytes-word-requires : goal.bytes-word-requires
bytes-word-requires c = search name_fits

pub take_cmd-taken-requires : goal.take_cmd-taken-requires
take_cmd-taken-requires c = (search rules, search can_take)

pub overflow_cast-result : goal.overflow_cast-result
overflow_cast-result c = search number_fits

pub overflow_add-result : goal.overflow_add-result
overflow_add-result c = record { fits = search code_fits }

pub returns-then-taken : goal.returns-then-taken
returns-then-taken c = search name_taken

pub returns : goal.returns
returns c =
    name_passed _ _ _ _ _ _ c.requires.0 _ _ c.name_at-name.ensures _ c.if-name-kind.false _ _ c.area_of.ensures c.bytes-word.ensures _ _ c.take_cmd-taken.ensures
    c.if-taken.false _ c.untaken-2.ensures
