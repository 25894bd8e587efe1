use borrow.Author.Rules.{rules}
use Rattle.run_fields.proofs.Fields.{table_room}
use Rattle.call_node.proofs.Answers.{known_matchable}
use Rattle.call_node.proofs.known_of.Goals as goal

pub known-requires : goal.known-requires
known-requires c = (search known_matchable, search rules, search (table_room, rules))
