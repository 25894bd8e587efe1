-- Every item is matched with the nodes, in a table with room for the line; then the fields are run. Assumes nothing.
use borrow.Author.Rules.{rules}
use Rattle.run_fields.proofs.Fields.{table_room}
use Rattle.run.proofs.Runs.{items_few, items_matchable, items_start}
use Rattle.run.proofs.run_items.Goals as goal

pub known-requires : goal.known-requires
known-requires c = (search items_matchable, search items_few, search (table_room, rules))

pub run_known-requires : goal.run_known-requires
run_known-requires c = (search items_start, search rules)

pub known-requires-2 : goal.known-requires-2
known-requires-2 c = (search items_matchable, search items_few, search (table_room, items_few, rules))

pub run_known-requires-2 : goal.run_known-requires-2
run_known-requires-2 c = (search items_start, search rules)
