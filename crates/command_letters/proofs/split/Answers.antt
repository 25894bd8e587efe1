-- By whether an argument can be a cluster, and how many forms there are. Assumes nothing.
use Rattle.command_letters.proofs.Tables.{table_head, most_room}
use Rattle.split_args.proofs.Plain.{plain_ends}
use Rattle.split_arg.proofs.Order.{few_searchable}
use native.Mathlib.Omega.{arith}
use borrow.Author.Rules.{rules}
use Rattle.command_letters.proofs.split.Goals as goal

pub construct-requires : goal.construct-requires
construct-requires c = (search rules, search (few_searchable, rules))

pub returns-then-all_plain : goal.returns-then-all_plain
returns-then-all_plain c = λ cs fs reads accepts. search plain_ends

pub entry_count-requires : goal.entry_count-requires
entry_count-requires c = search (table_head, rules)

pub split_within-requires-2 : goal.split_within-requires-2
split_within-requires-2 c = (c.requires.0, c.requires.1, most_room _ c.requires.0, omega arith)
