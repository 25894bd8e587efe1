use borrow.Author.Rules.{rules}
use Rattle.rules.specs.Commands.{entry_count}
use Rattle.command_layout.proofs.entry_count.Goals as goal

pub returns : goal.returns
unfolding entry_count
returns c = search rules
