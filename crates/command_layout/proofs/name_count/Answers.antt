use borrow.Author.Rules.{rules}
use Rattle.rules.specs.Commands.{entry_names}
use Rattle.command_layout.proofs.name_count.Goals as goal

pub returns : goal.returns
unfolding entry_names
returns c = search rules
