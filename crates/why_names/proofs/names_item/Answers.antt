-- By the kind of the node. Assumes nothing.
use borrow.Author.Rules.{rules}
use Rattle.why_names.proofs.Laws.{form_long, names_there, nameless, node_names}
use Rattle.why_names.proofs.names_item.Goals as goal

pub node_at-x-requires : goal.node_at-x-requires
node_at-x-requires c = (search form_long, search rules)

pub matches-requires : goal.matches-requires
matches-requires c = (search names_there, search rules)

pub returns-in-Flag : goal.returns-in-Flag
returns-in-Flag c = search (node_names, c.matches.ensures)

pub returns-in_default : goal.returns-in_default
returns-in_default c = search nameless
