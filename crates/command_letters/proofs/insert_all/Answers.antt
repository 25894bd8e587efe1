use borrow.Author.Rules.{rules}
use Rattle.command_letters.proofs.Gathers.{inserting_first, inserting_room, inserting_next, inserting_last}
use Rattle.command_letters.proofs.insert_all.Goals as goal

pub loop-letter-init : goal.loop-letter-init
loop-letter-init c = search inserting_first

pub insert-count-requires : goal.insert-count-requires
insert-count-requires c = search inserting_room

pub loop-letter-preserved : goal.loop-letter-preserved
loop-letter-preserved c = search (inserting_next, rules)

pub returns : goal.returns
returns c = search (inserting_last, rules)
