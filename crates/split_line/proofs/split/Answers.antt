use borrow.Author.Rules.{rules}
use Rattle.split_arg.proofs.Order.{few_searchable}
use Rattle.split_args.proofs.Plain.{plain_ends}
use Rattle.split_line.proofs.split.Goals as goal

pub construct-requires : goal.construct-requires
construct-requires c = (search rules, search (few_searchable, rules))

pub returns-then-all_plain : goal.returns-then-all_plain
returns-then-all_plain c = search plain_ends
